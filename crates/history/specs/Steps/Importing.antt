-- A new module's own imports: by name from the auto-linked modules, by module entry from the module that it names.
use Rattle.std.specs.Prelude.{if◌then◌else◌, ℕ, ◌+◌, ◌<◌, ◌≡◌, List, Option, Some, None}
use Rattle.std.proofs.Math.Path.{refl}
use Rattle.std.proofs.Common.{sym, ◌∙◌, lit<}
use Rattle.std.proofs.Math.Bool.{Bool, true, false}
use Rattle.window.specs.Memory.{◌⊕◌}
use Rattle.window.specs.Access.{ret, get32}
use Rattle.window.specs.Name.{name_at}
use Rattle.window.specs.Within.{Low}
use Rattle.window.specs.Mirror.{word}
use Rattle.layout.specs.Segments.{field, entry_at}
use Rattle.register.specs.Module.{Module}
use Rattle.register.specs.Read.Read as read
use Rattle.register.specs.Read.Read.{lookup_in}
use Rattle.linker_spec.specs.Imports as imports
use Rattle.linker_spec.specs.Imports.{is_unresolved, resolve, add_missing, import_named, apply_import_named_symbols, imports_of, module_by_name, import_module, apply_module_imports}
use Rattle.history.specs.Image.{tables, named_imports, module_entries, externals, start, count, entry, name_of}
use Rattle.history.specs.LoadedModule.{Image, base_of, moved_offset, Area}
use Rattle.history.specs.Imports.{Import, named, indexed, anonymous, import_entry, IsImport, wanted, InRun}
use Rattle.history.specs.WellLaid.{of_entry, WellLaid}
use Rattle.history.specs.Steps.Wp.{Memory, Does, does_mono, does_read, if_reads, if_then}
use Rattle.history.specs.Steps.View.{View}
use Rattle.history.specs.Steps.ModuleBytes.{shows_view}
use Rattle.history.specs.Steps.Reading.{reads_start, reads_count, reads_name}
use Rattle.history.specs.Steps.Links.{Links, is_some, relink, Stands}
use Rattle.history.specs.Steps.Changes.{Change, Changed, changes_loop}
use Rattle.history.specs.Steps.OneImport.{link_to, reads_batch, reads_unresolved, resolves}
use Rattle.history.specs.Steps.Runs.{Begins, EntryBegins, Linking, relinked}
use Rattle.history.specs.Steps.Asking.{reads_import_name, import_pointer, named-apart, named-at, entry-start, runs_other}
use Rattle.history.specs.Steps.Entries.{reads_entry_pointer, reads_runs, links_entry}

-- what a module that an entry names has for an import; nothing if there is none
unfoldable pub export_from : (ℕ → ℕ) → Option Module → Import → Option ℕ
export_from F None i = None
export_from F (Some r) (named i) = None
export_from F (Some r) (indexed i) = read.entry_of r.indexed (wanted F (indexed i))
export_from F (Some r) (anonymous i) = imports.anonymous_of r (wanted F (anonymous i))

module _ (m : Image) (laid : WellLaid m) (low : Low (Area m)) {T : Memory} (view : View m T) (n v : ℕ) (ms : List Module) where
  abbrev F : ℕ → ℕ
  F = m.file

  abbrev base : ℕ
  base = base_of m.load_call

  abbrev S : ℕ → Type 0
  S = Area m

  -- what is looked up for a named import
  abbrev LookedUp : Import → Option ℕ
  LookedUp i = lookup_in ms (name_of F (wanted F i))

  abbrev pub NamedBegins : ℕ → Type 0
  NamedBegins e = (i : ℕ) × (i < count F named_imports) × Begins F (named i) e

  -- one named import; whether its name is noted as missing is no matter here
  imports-one
      : {φ : Links} {M : Memory} (i : ℕ) (missing : List (List ℕ)) → i < count F named_imports → Stands m T φ n v M
      → Does S (import_named ms base (base + import_entry F (named i)) missing)
      (λ _ N. Changed m T n v S (Linking F LookedUp) (Begins F (named i)) φ N) M
  unfolding import_named
  imports-one {φ} {M} i missing l s =
      let w = shows_view m laid view s.shows in
      let b = laid.alone.batches (named i) l in
      let name = name_of F (wanted F (named i)) in
      let c : Bool = if is_some (φ b.0) then false else true in
      does_read S (get32 (base + import_entry F (named i) ⊕ 4)) _ (base + entry F externals b.0)
      (reads_batch m laid low view n v w (named i) l b.0 b.1 b.2)
      (does_read S (is_unresolved (base + entry F externals b.0)) _ c (reads_unresolved m laid low view n v (named i) b.0 b.1 b.2 s)
      (if_reads S c (get32 (base + import_entry F (named i))) _ (moved_offset base (wanted F (named i))) (ret missing)
      (reads_import_name m laid low view n v w i l)
      (if_reads S c (name_at (moved_offset base (wanted F (named i)))) _ name (ret missing)
      (reads_name m laid low w (wanted F (named i)) (import_pointer m laid low view n v i l))
      (if_then S c (resolve base (base + entry F externals b.0) (lookup_in ms name)) (add_missing (lookup_in ms name) name missing) missing
      (does_mono S (resolves m laid low view n v (named i) b.0 b.1 (lookup_in ms name) b.2 s)
      (λ _ N t. (
        relink φ b.0 (link_to (φ b.0) (LookedUp (named i))),
        t,
        relinked m laid low view n v LookedUp (named i) l b.0 b.1
            b.2,
      )))))))

  pub imports-named
      : {φ : Links} {M : Memory} (missing : List (List ℕ)) → Stands m T φ n v M
      → Does S (apply_import_named_symbols ms base missing) (λ _ N. Changed m T n v S (Linking F LookedUp) NamedBegins φ N) M
  unfolding apply_import_named_symbols tables
  imports-named missing s =
      let w = shows_view m laid view s.shows in
      does_read S (field base 0x100) _ (moved_offset base (start F named_imports)) (reads_start m laid low w 6 (lit< tt))
      (does_read S (field base 0x104) _ (count F named_imports) (reads_count m laid low w 6 (lit< tt))
      (changes_loop m T n v S (Linking F LookedUp) (λ i xs. import_named ms base (entry_at (moved_offset base (start F named_imports)) i 8) xs)
      (λ i. Begins F (named i)) (count F named_imports) missing (λ i j e l g o a b. named-apart m laid low view n v i j e l g o a b)
      (λ i xs ψ N l t. rw (named-at m laid low view n v i l) (imports-one i xs l t)) s))

  -- the name of module entry j, and the module that has it
  abbrev SourceModule : ℕ → Option Module
  SourceModule j = module_by_name ms (name_of F (word F (entry F module_entries j)))

  -- an import in the run of entry j gets what that module has
  abbrev pub BySource : ℕ → Option ℕ → Option ℕ → Type 0
  BySource e x y = (i : Import) → IsImport F i → Begins F i e → (j : ℕ) → j < count F module_entries → InRun F j i
      → y ≡ link_to x (export_from F (SourceModule j) i)

  abbrev pub Run : ℕ → Type 0
  Run e = (j : ℕ) × (j < count F module_entries) × EntryBegins F j e

  -- only entry j has the import in its run
  of_source : (j : ℕ) → j < count F module_entries → {φ ψ : Links} → Change (EntryBegins F j) (Linking F (export_from F (SourceModule j))) φ ψ
      → Change (EntryBegins F j) BySource φ ψ
  of_source j l c =
      record {
        changed =
            λ e h i a b k g d.
            let z : k ≡ j = laid.alone.one-run i a k j g l d (same_import e h i a b) in rw z (c.changed e h i a b);
        same = c.same;
      }
    where
      same_import : (e : ℕ) → EntryBegins F j e → (i : Import) → IsImport F i → Begins F i e → InRun F j i
      same_import e (p, h, r, d) i a b = rw (laid.alone.own-batch i p a h (b ∙ sym d)) r

  offers_index : (r : Module) (i : ℕ) → read.entry_of r.indexed (wanted F (indexed i)) ≡ export_from F (Some r) (indexed i)
  unfolding export_from
  offers_index r i = refl

  offers_tag : (r : Module) (i : ℕ) → imports.anonymous_of r (wanted F (anonymous i)) ≡ export_from F (Some r) (anonymous i)
  unfolding export_from
  offers_tag r i = refl

  -- where no module has the name, nothing changes
  unchanged : (j : ℕ) → j < count F module_entries → {φ : Links} → Change (EntryBegins F j) (Linking F (export_from F None)) φ φ
  unfolding export_from link_to
  unchanged j l {φ} = record { changed = λ e h i a b. stays (φ e); same = λ e o. refl }
    where
      stays : (x : Option ℕ) → x ≡ link_to x None
      stays (Some a) = refl
      stays None = refl

  imports-entry
      : {φ : Links} {M : Memory} (j : ℕ) → j < count F module_entries → Stands m T φ n v M
      → Does S (import_module ms base (base + entry F module_entries j)) (λ _ N. Changed m T n v S BySource (EntryBegins F j) φ N) M
  unfolding import_module
  imports-entry {φ} {M} j l s =
      let w = shows_view m laid view s.shows in
      does_read S (get32 (base + entry F module_entries j)) _ _ (reads_entry_pointer m laid low view n v j l w)
      (does_read S (name_at (moved_offset base (word F (entry F module_entries j)))) _ (name_of F (word F (entry F module_entries j)))
      (reads_name m laid low w (word F (entry F module_entries j)) (of_entry j l))
      (does_mono S (go (SourceModule j)) (λ _ N c. (c.0, c.1, of_source j l c.2))))
    where
      go : (o : Option Module) → Does S (imports_of o base (base + entry F module_entries j))
          (λ _ N. Changed m T n v S (Linking F (export_from F o)) (EntryBegins F j) φ N) M
      go (Some r) = links_entry m laid low view n v j l (export_from F (Some r)) r (λ i a b. offers_index r i) (λ i a b. offers_tag r i) s
      go None = does_mono S (reads_runs m laid low view n v j l s) (λ _ N e. (φ, rw e.1 s, unchanged j l))

  pub imports_entries
      : {φ : Links} {M : Memory} → Stands m T φ n v M → Does S (apply_module_imports ms base) (λ _ N. Changed m T n v S BySource Run φ N) M
  unfolding apply_module_imports tables
  imports_entries s =
      let w = shows_view m laid view s.shows in
      does_read S (field base 0xf0) _ (moved_offset base (start F module_entries)) (reads_start m laid low w 4 (lit< tt))
      (does_read S (field base 0xf4) _ (count F module_entries) (reads_count m laid low w 4 (lit< tt))
      (changes_loop m T n v S BySource (λ j _. import_module ms base (entry_at (moved_offset base (start F module_entries)) j 20)) (EntryBegins F)
      (count F module_entries) (tt {0}) (runs_other m laid low view n v)
      (λ j b ψ N l t. rw (entry-start m laid low view n v j l) (imports-entry j l t)) s))
