-- A module leaves: each import of a standing one that it may have served goes back to its handler.
use Rattle.std.specs.Prelude.{if◌then◌else◌, ℕ, ◌+◌, ◌<◌, ◌≡◌, refl, ◌⊎◌, Bool, None}
use Rattle.std.proofs.Common.{sym, ◌∙◌, lit<}
use Rattle.std.proofs.Math.Logic.{inl, inr}
use Rattle.std.proofs.Math.Bool.{true, false}
use Rattle.window.specs.Memory.{◌⊕◌}
use Rattle.window.specs.Access.{Prog, ret, ◌>>=◌, ◌>>◌, get32}
use Rattle.window.specs.Loop.{loop}
use Rattle.window.specs.Name.{name_at}
use Rattle.window.specs.Within.{Low}
use Rattle.window.specs.Mirror.{word}
use Rattle.layout.specs.Segments.{field, entry_at}
use Rattle.register.specs.Words.{same}
use Rattle.register.specs.Lists.{same_true, same_refl}
use Rattle.register.specs.Module.{Module}
use Rattle.register.specs.Read.Read as read
use Rattle.linker_spec.specs.Resets.{exists, reset_at, reset_named, reset_module, reset_imports}
use Rattle.linker_spec.specs.Relocation.{unresolved_symbol}
use Rattle.history.specs.Image.{tables, named_imports, module_entries, start, count, entry, name_of, module_name}
use Rattle.history.specs.LoadedModule.{Image, base_of, moved_offset, handler, Area}
use Rattle.history.specs.Imports.{Import, named, indexed, anonymous, import_entry, IsImport, wanted, InRun, From}
use Rattle.history.specs.WellLaid.{of_entry, WellLaid}
use Rattle.history.specs.Steps.Wp.{Memory, Does, does_mono, does_ret, does_then, does_read}
use Rattle.history.specs.Steps.View.{View}
use Rattle.history.specs.Steps.ModuleBytes.{shows_view}
use Rattle.history.specs.Steps.Reading.{reads_start, reads_count, reads_handler, reads_name}
use Rattle.history.specs.Steps.Links.{Links, relink, Stands}
use Rattle.history.specs.Steps.Changes.{change_none, change-then, change_iff, Changed, changes_loop}
use Rattle.history.specs.Steps.OneImport.{resets_at}
use Rattle.history.specs.Steps.Records.{Recorded, export_for, ImportsFrom}
use Rattle.history.specs.Steps.Runs.{Begins, unlinked}
use Rattle.history.specs.Steps.Asking.{true_false, reads_import_name, import_pointer, named-apart, named-at, entry-start, EntryAsks, entries_apart, ByEntry, kinds_apart, asks_entry}
use Rattle.history.specs.Steps.Entries.{reads_entry_pointer, no_run, unlinks_entry}

-- entry e begins the batch of an import of m that x may have served: by name if x has the export, by a module entry in any case
unfoldable pub Drops : Image → Image → Import → Type 0
Drops x m (named i) = exists (export_for x m (named i)) ≡ true
Drops x m (indexed i) = ImportsFrom x m (indexed i)
Drops x m (anonymous i) = ImportsFrom x m (anonymous i)

abbrev pub Dropped : Image → Image → ℕ → Type 0
Dropped x m e = (i : Import) × IsImport m.file i × Drops x m i × Begins m.file i e

module _ (m : Image) (laid : WellLaid m) (low : Low (Area m)) {T : Memory} (view : View m T) (n v : ℕ) where
  abbrev F : ℕ → ℕ
  F = m.file

  abbrev base : ℕ
  base = base_of m.load_call

  abbrev S : ℕ → Type 0
  S = Area m

  abbrev LinksReset : (ℕ → Type 0) → Links → Memory → Type 0
  LinksReset P φ N = Changed m T n v S (λ e x y. y ≡ None) P φ N

  module _ (x : Image) (r : Module) (rec : Recorded x r) where
    abbrev NamedDrops : ℕ → ℕ → Type 0
    NamedDrops i e = (exists (export_for x m (named i)) ≡ true) × Begins F (named i) e

    offers_named : (i : ℕ) → read.export_of r (name_of F (wanted F (named i))) ≡ export_for x m (named i)
    unfolding export_for
    offers_named i = rec.exports (name_of F (wanted F (named i)))

    -- one named import
    resets_one
        : {φ : Links} {M : Memory} (i : ℕ) → i < count F named_imports → Stands m T φ n v M
        → Does S (reset_named r base (handler m) (base + import_entry F (named i))) (λ _ N. LinksReset (NamedDrops i) φ N) M
    unfolding reset_named
    resets_one {φ} {M} i l s =
        let w = shows_view m laid view s.shows in
        let name = name_of F (wanted F (named i)) in
        does_read S (get32 (base + import_entry F (named i))) _ (moved_offset base (wanted F (named i))) (reads_import_name m laid low view n v w i l)
        (does_read S (name_at (moved_offset base (wanted F (named i)))) _ name
        (reads_name m laid low w (wanted F (named i)) (import_pointer m laid low view n v i l))
        (rw (offers_named i) (go (exists (export_for x m (named i))) refl)))
      where
        go
            : (b : Bool) → exists (export_for x m (named i)) ≡ b
            → Does S (if b then reset_at base (handler m) (base + import_entry F (named i)) else ret tt) (λ _ N. LinksReset (NamedDrops i) φ N) M
        go true h =
            let b = laid.alone.batches (named i) l in
            does_mono S (resets_at m laid low view n v (named i) l b.0 b.1 b.2 s)
            (λ _ N c.
            (relink φ b.0 None, c, change_iff (λ d g. (h, g)) (λ d g. g.1) (unlinked m laid low view n v (named i) b.0 b.1 b.2)))
        go false h = does_ret S (φ, s, change_none (λ d g. true_false (sym g.0 ∙ h)))

    -- one module entry
    resets_entry
        : {φ : Links} {M : Memory} (j : ℕ) → j < count F module_entries → Stands m T φ n v M
        → Does S (reset_module r base (handler m) (base + entry F module_entries j)) (λ _ N. LinksReset (EntryAsks m laid low view n v x j) φ N) M
    unfolding reset_module
    resets_entry {φ} {M} j l s =
        let w = shows_view m laid view s.shows in
        let name = name_of F (word F (entry F module_entries j)) in
        does_read S (get32 (base + entry F module_entries j)) _ _ (reads_entry_pointer m laid low view n v j l w)
        (does_read S (name_at (moved_offset base (word F (entry F module_entries j)))) _ name
        (reads_name m laid low w (word F (entry F module_entries j)) (of_entry j l)) (go (same name r.name) refl))
      where
        runs : Prog (Unit {0})
        runs = do
          a ← get32 (base + entry F module_entries j ⊕ 4)
          b ← get32 (base + entry F module_entries j ⊕ 8)
          c ← get32 (base + entry F module_entries j ⊕ 12)
          d ← get32 (base + entry F module_entries j ⊕ 16)
          loop (λ k _. reset_at base (handler m) (entry_at a k 8)) 0 b (tt {0})
          loop (λ k _. reset_at base (handler m) (entry_at c k 8)) 0 d (tt {0})

        go
            : (b : Bool) → same (name_of F (word F (entry F module_entries j))) r.name ≡ b
            → Does S (if b then runs else ret tt) (λ _ N. LinksReset (EntryAsks m laid low view n v x j) φ N) M
        go true h =
            let e : name_of F (word F (entry F module_entries j)) ≡ module_name x.file = same_true _ _ h ∙ rec.name in
            does_mono S (unlinks_entry m laid low view n v j l s) (λ _ N c. (c.0, c.1, change_iff (λ d g. (e, g)) (λ d g. g.1) c.2))
        go false h =
            does_ret S (φ, s, change_none (λ d g. true_false (sym (rw (g.0 ∙ sym rec.name) (same_refl r.name)) ∙ h)))

    abbrev NamedDropped : ℕ → Type 0
    NamedDropped e = (i : ℕ) × (i < count F named_imports) × NamedDrops i e

    drops_all : (e : ℕ) → NamedDropped e ⊎ ByEntry m laid low view n v x e → Dropped x m e
    unfolding Drops
    drops_all e (inl (i, l, (h, b))) = (named i, l, h, b)
    drops_all e (inr (j, g, (a, (p, h, c, d)))) = (p, h, asks_drops j p g a c, d)
      where
        asks_drops : (j : ℕ) (i : Import) → j < count F module_entries → name_of F (word F (entry F module_entries j)) ≡ module_name x.file
            → InRun F j i → Drops x m i
        asks_drops j (named i) l e h = absurd (no_run m laid low view n v j l i h)
        asks_drops j (indexed i) l e h = asks_entry m laid low view n v x j (indexed i) l e h
        asks_drops j (anonymous i) l e h = asks_entry m laid low view n v x j (anonymous i) l e h

    drops_only : (e : ℕ) → Dropped x m e → NamedDropped e ⊎ ByEntry m laid low view n v x e
    unfolding Drops ImportsFrom From
    drops_only e (named i, l, a, b) = inl (i, l, (a, b))
    drops_only e (indexed i, l, (j, g, h, z), b) = inr (j, g, (sym z, (indexed i, l, h, b)))
    drops_only e (anonymous i, l, (j, g, h, z), b) = inr (j, g, (sym z, (anonymous i, l, h, b)))

    -- all imports of the module
    pub resets_all
        : {φ : Links} {M : Memory} → Stands m T φ n v M → Does S (reset_imports r base) (λ _ N. LinksReset (Dropped x m) φ N) M
    unfolding reset_imports tables
    resets_all {φ} {M} s =
        let w = shows_view m laid view s.shows in
        does_read S (unresolved_symbol base) _ (handler m) (reads_handler m laid low w)
        (does_read S (field base 0x100) _ (moved_offset base (start F named_imports)) (reads_start m laid low w 6 (lit< tt))
        (does_read S (field base 0x104) _ (count F named_imports) (reads_count m laid low w 6 (lit< tt))
        (does_then S
        (loop (λ i _. reset_named r base (handler m) (entry_at (moved_offset base (start F named_imports)) i 8)) 0 (count F named_imports) (tt {0})) _
        (changes_loop m T n v S (λ e x y. y ≡ None) (λ i _. reset_named r base (handler m) (entry_at (moved_offset base (start F named_imports)) i 8))
        NamedDrops (count F named_imports) (tt {0}) (λ i j e l g o a b. named-apart m laid low view n v i j e l g o a.1 b.1)
        (λ i b ψ N l t. rw (named-at m laid low view n v i l) (resets_one i l t)) s)
        (λ _ N c.
        let u = shows_view m laid view c.1.shows in
        does_read S (field base 0xf0) _ (moved_offset base (start F module_entries)) (reads_start m laid low u 4 (lit< tt))
        (does_read S (field base 0xf4) _ (count F module_entries) (reads_count m laid low u 4 (lit< tt))
        (does_mono S
        (changes_loop m T n v S (λ e x y. y ≡ None)
        (λ j _. reset_module r base (handler m) (entry_at (moved_offset base (start F module_entries)) j 20)) (EntryAsks m laid low view n v x)
        (count F module_entries) (tt {0}) (entries_apart m laid low view n v x)
        (λ j b ψ L l t. rw (entry-start m laid low view n v j l) (resets_entry j l t)) c.1)
        (λ _ L d. (
          d.0,
          d.1,
          change_iff drops_all drops_only (change-then (λ e a b. kinds_apart m laid low view n v x e (a.0, a.1, a.2.1) b) c.2 d.2),
        ))))))))
