-- The imports of a standing module that ask another one: all by name, and those whose module entry names it.
use Rattle.std.specs.Prelude.{ℕ, ◌+◌, ◌<◌, ◌≡◌, ◌≢◌, Bool, true, false}
use Rattle.std.proofs.Math.Path.{sym}
use Rattle.std.proofs.Common.{ap, ◌∙◌, arith, lit<}
use Rattle.window.specs.Access.{get32}
use Rattle.window.specs.Within.{Low}
use Rattle.window.specs.Mirror.{word}
use Rattle.layout.specs.Segments.{entry_at}
use Rattle.history.specs.Image.{tables, named_imports, module_entries, start, count, entry, name_of, module_name}
use Rattle.history.specs.LoadedModule.{Image, base_of, moved_offset, Area}
use Rattle.history.specs.Imports.{Import, named, indexed, anonymous, import_entry, import_number, wanted, InRun, From}
use Rattle.history.specs.WellLaid.{table, Pointer, of_import, WellLaid}
use Rattle.history.specs.Steps.Wp.{Memory, ReadsValue, reads_get32}
use Rattle.history.specs.Steps.View.{View, import_name}
use Rattle.history.specs.Steps.Parts.{part-inside, entry-in_table}
use Rattle.history.specs.Steps.Reading.{four_at, entry_at_lem}
use Rattle.history.specs.Steps.OneImport.{import_inside}
use Rattle.history.specs.Steps.Records.{ImportsFrom}
use Rattle.history.specs.Steps.Runs.{Begins, EntryBegins}
use Rattle.history.specs.Steps.Entries.{no_run}

pub true_false : ◌≡◌ {A = Bool} true false → ⊥
true_false e = absurd (omega (arith, ap number e))
  where
    number : Bool → ℕ
    number true = 1
    number false = 0

module _ (m : Image) (laid : WellLaid m) (low : Low (Area m)) {T : Memory} (view : View m T) (n v : ℕ) where
  abbrev F : ℕ → ℕ
  F = m.file

  abbrev base : ℕ
  base = base_of m.load_call

  abbrev S : ℕ → Type 0
  S = Area m

  -- the pointer of the name that a named import asks for
  pub reads_import_name
      : {M : Memory} → View m M → (i : ℕ) → i < count F named_imports
      → ReadsValue S (get32 (base + import_entry F (named i))) (moved_offset base (wanted F (named i))) M
  unfolding import_entry wanted
  reads_import_name w i l =
      let e = import_inside m laid low (named i) l in
      reads_get32 S _ (four_at m laid low (import_entry F (named i)) (omega (arith, e))) (w.moved (entry F named_imports i) (import_name i l))

  pub import_pointer : (i : ℕ) → i < count F named_imports → Pointer F (wanted F (named i))
  unfolding import_entry wanted
  import_pointer i l = of_import i l

  -- named imports begin different batches
  pub named-apart : (i j e : ℕ) → i < count F named_imports → j < count F named_imports → i ≢ j → Begins F (named i) e → Begins F (named j) e → ⊥
  named-apart i j e l g o a b = o (ap import_number (laid.alone.own-batch (named i) (named j) l g (a ∙ sym b)))

  -- the address of a named import's entry
  pub named-at : (i : ℕ) → i < count F named_imports → entry_at (moved_offset base (start F named_imports)) i 8 ≡ base + import_entry F (named i)
  unfolding import_entry tables
  named-at i l = let e = import_inside m laid low (named i) l in entry_at_lem m laid low 6 i (lit< tt) l (omega (arith, e))

  pub entry-start : (j : ℕ) → j < count F module_entries → entry_at (moved_offset base (start F module_entries)) j 20 ≡ base + entry F module_entries j
  unfolding tables
  entry-start j l =
      let e = part-inside m laid (table 4) _ (entry-in_table F 4 j 0 (lit< tt) l (lit< tt)) in
      entry_at_lem m laid low 4 j (lit< tt) l (omega (arith, e))

  -- no import is in two runs
  pub runs_other : (i j e : ℕ) → i < count F module_entries → j < count F module_entries → i ≢ j → EntryBegins F i e → EntryBegins F j e → ⊥
  runs_other i j e l g o (p, b, c, d) (p', b', c', d') =
      let z : p ≡ p' = laid.alone.own-batch p p' b b' (d ∙ sym d') in o (laid.alone.one-run p b i j l g c (rw (← z) at c'))

  module _ (x : Image) where
    -- the batches of a module entry that names x
    abbrev pub EntryAsks : ℕ → ℕ → Type 0
    EntryAsks j e = (name_of F (word F (entry F module_entries j)) ≡ module_name x.file) × EntryBegins F j e

    -- imports of different entries begin different batches
    pub entries_apart : (i j e : ℕ) → i < count F module_entries → j < count F module_entries → i ≢ j → EntryAsks i e → EntryAsks j e → ⊥
    entries_apart i j e l g o a b = runs_other i j e l g o a.1 b.1

    abbrev pub ByName : ℕ → Type 0
    ByName e = (i : ℕ) × (i < count F named_imports) × Begins F (named i) e

    abbrev pub ByEntry : ℕ → Type 0
    ByEntry e = (j : ℕ) × (j < count F module_entries) × EntryAsks j e

    pub kinds_apart : (e : ℕ) → ByName e → ByEntry e → ⊥
    kinds_apart e (i, l, b) (j, g, (a, (p, h, c, d))) =
        let z : p ≡ named i = laid.alone.own-batch p (named i) h l (d ∙ sym b) in no_run m laid low view n v j g i (rw z at c)

    pub asks_entry : (j : ℕ) (i : Import) → j < count F module_entries → name_of F (word F (entry F module_entries j)) ≡ module_name x.file
        → InRun F j i → ImportsFrom x m i
    unfolding ImportsFrom From
    asks_entry j (named i) l e h = tt
    asks_entry j (indexed i) l e h = (j, l, h, sym e)
    asks_entry j (anonymous i) l e h = (j, l, h, sym e)
