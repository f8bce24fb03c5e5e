-- A new module's exports reach a standing one: each of its imports that asks for one gets it, if it is not linked yet.
use Rattle.std.specs.Prelude.{if◌then◌else◌, ℕ, ◌+◌, ◌<◌, ◌≡◌, refl, ◌⊎◌, Some}
use Rattle.std.proofs.Math.Path.{sym}
use Rattle.std.proofs.Common.{◌∙◌, lit<}
use Rattle.std.proofs.Math.Logic.{inl, inr}
use Rattle.std.proofs.Math.Bool.{Bool, true, false}
use Rattle.window.specs.Memory.{◌⊕◌}
use Rattle.window.specs.Access.{ret, get32}
use Rattle.window.specs.Loop.{loop}
use Rattle.window.specs.Name.{name_at}
use Rattle.window.specs.Within.{Low}
use Rattle.window.specs.Mirror.{word}
use Rattle.layout.specs.Segments.{field, entry_at}
use Rattle.register.specs.Words.{same}
use Rattle.register.specs.Lists.{same_true, same_refl}
use Rattle.register.specs.Module.{Module}
use Rattle.register.specs.Read.Read as read
use Rattle.linker_spec.specs.Imports as imports
use Rattle.linker_spec.specs.Imports.{is_unresolved, imports_of, serve_named, serve_module, serve}
use Rattle.history.specs.Image.{tables, named_imports, module_entries, externals, start, count, entry, name_of, module_name}
use Rattle.history.specs.LoadedModule.{Image, base_of, moved_offset, Area}
use Rattle.history.specs.Imports.{Import, named, indexed, anonymous, import_entry, IsImport, wanted, From}
use Rattle.history.specs.WellLaid.{of_entry, WellLaid}
use Rattle.history.specs.Steps.Wp.{Memory, Does, does_mono, does_ret, does_then, does_read, if_reads}
use Rattle.history.specs.Steps.View.{View}
use Rattle.history.specs.Steps.ModuleBytes.{shows_view}
use Rattle.history.specs.Steps.Reading.{reads_start, reads_count, reads_name}
use Rattle.history.specs.Steps.Links.{Links, is_some, relink, Stands}
use Rattle.history.specs.Steps.Changes.{change_none, change-then, change_iff, Changed, changes_loop}
use Rattle.history.specs.Steps.OneImport.{link_to, reads_batch, reads_unresolved, resolves}
use Rattle.history.specs.Steps.Records.{Recorded, export_for, ImportsFrom}
use Rattle.history.specs.Steps.Runs.{Begins, Linking, relinked}
use Rattle.history.specs.Steps.Asking.{true_false, reads_import_name, import_pointer, named-apart, named-at, entry-start, EntryAsks, entries_apart, ByName, ByEntry, kinds_apart, asks_entry}
use Rattle.history.specs.Steps.Entries.{reads_entry_pointer, links_entry}

-- entry e begins the batch of an import of m that asks x
abbrev pub Served : Image → Image → ℕ → Type 0
Served x m e = (i : Import) × IsImport m.file i × ImportsFrom x m i × Begins m.file i e

module _ (m : Image) (laid : WellLaid m) (low : Low (Area m)) {T : Memory} (view : View m T) (n v : ℕ) where
  abbrev F : ℕ → ℕ
  F = m.file

  abbrev base : ℕ
  base = base_of m.load_call

  abbrev S : ℕ → Type 0
  S = Area m

  module _ (x : Image) (r : Module) (rec : Recorded x r) where
    offers_indexed : (i : ℕ) → read.entry_of r.indexed (wanted F (indexed i)) ≡ export_for x m (indexed i)
    unfolding export_for
    offers_indexed i = rec.indexes (wanted F (indexed i))

    offers_anonymous : (i : ℕ) → imports.anonymous_of r (wanted F (anonymous i)) ≡ export_for x m (anonymous i)
    unfolding export_for
    offers_anonymous i = rec.anonymous (wanted F (anonymous i))

    -- one named import
    serves_one
        : {φ : Links} {M : Memory} (i : ℕ) → i < count F named_imports → Stands m T φ n v M
        → Does S (serve_named r base (base + import_entry F (named i)))
        (λ _ N. Changed m T n v S (Linking F (export_for x m)) (Begins F (named i)) φ N) M
    unfolding serve_named export_for
    serves_one {φ} {M} i l s =
        let w = shows_view m laid view s.shows in
        let b = laid.alone.batches (named i) l in
        let name = name_of F (wanted F (named i)) in
        let c : Bool = if is_some (φ b.0) then false else true in
        does_read S (get32 (base + import_entry F (named i) ⊕ 4)) _ (base + entry F externals b.0)
        (reads_batch m laid low view n v w (named i) l b.0 b.1 b.2)
        (does_read S (is_unresolved (base + entry F externals b.0)) _ c (reads_unresolved m laid low view n v (named i) b.0 b.1 b.2 s)
        (if_reads S c (get32 (base + import_entry F (named i))) _ (moved_offset base (wanted F (named i))) (ret tt)
        (reads_import_name m laid low view n v w i l)
        (if_reads S c (name_at (moved_offset base (wanted F (named i)))) _ name (ret tt)
        (reads_name m laid low w (wanted F (named i)) (import_pointer m laid low view n v i l))
        (does_mono S (resolves m laid low view n v (named i) b.0 b.1 (read.export_of r name) b.2 s)
        (λ _ N t. (
          relink φ b.0 (link_to (φ b.0) (export_for x m (named i))),
          rw (rec.exports name) at t,
          relinked m laid low view n v (export_for x m)
              (named i) l b.0 b.1 b.2,
        ))))))

    -- one module entry: if it names x, both its runs
    serves_entry
        : {φ : Links} {M : Memory} (j : ℕ) → j < count F module_entries → Stands m T φ n v M
        → Does S (serve_module r base (base + entry F module_entries j))
        (λ _ N. Changed m T n v S (Linking F (export_for x m)) (EntryAsks m laid low view n v x j) φ N) M
    unfolding serve_module
    serves_entry {φ} {M} j l s =
        let w = shows_view m laid view s.shows in
        let name = name_of F (word F (entry F module_entries j)) in
        does_read S (get32 (base + entry F module_entries j)) _ _ (reads_entry_pointer m laid low view n v j l w)
        (does_read S (name_at (moved_offset base (word F (entry F module_entries j)))) _ name
        (reads_name m laid low w (word F (entry F module_entries j)) (of_entry j l)) (go (same name r.name) refl))
      where
        go
            : (b : Bool) → same (name_of F (word F (entry F module_entries j))) r.name ≡ b
            → Does S (if b then imports_of (Some r) base (base + entry F module_entries j) else ret tt)
            (λ _ N. Changed m T n v S (Linking F (export_for x m)) (EntryAsks m laid low view n v x j) φ N) M
        go true h =
            let e : name_of F (word F (entry F module_entries j)) ≡ module_name x.file = same_true _ _ h ∙ rec.name in
            does_mono S
            (links_entry m laid low view n v j l (export_for x m) r (λ i a b. offers_indexed i) (λ i a b. offers_anonymous i) s)
            (λ _ N c. (c.0, c.1, change_iff (λ d g. (e, g)) (λ d g. g.1) c.2))
        go false h =
            does_ret S (φ, s, change_none (λ d g. true_false (sym (rw (g.0 ∙ sym rec.name) (same_refl r.name)) ∙ h)))

    serves_all : (e : ℕ) → ByName m laid low view n v x e ⊎ ByEntry m laid low view n v x e → Served x m e
    unfolding ImportsFrom
    serves_all e (inl (i, l, b)) = (named i, l, tt, b)
    serves_all e (inr (j, g, (a, (p, h, c, d)))) = (p, h, asks_entry m laid low view n v x j p g a c, d)

    serves_only : (e : ℕ) → Served x m e → ByName m laid low view n v x e ⊎ ByEntry m laid low view n v x e
    unfolding ImportsFrom From
    serves_only e (named i, l, a, b) = inl (i, l, b)
    serves_only e (indexed i, l, (j, g, h, z), b) = inr (j, g, (sym z, (indexed i, l, h, b)))
    serves_only e (anonymous i, l, (j, g, h, z), b) = inr (j, g, (sym z, (anonymous i, l, h, b)))

    -- all imports of the module
    pub serves
        : {φ : Links} {M : Memory} → Stands m T φ n v M
        → Does S (serve r base) (λ _ N. Changed m T n v S (Linking F (export_for x m)) (Served x m) φ N) M
    unfolding serve tables
    serves {φ} {M} s =
        let w = shows_view m laid view s.shows in
        does_read S (field base 0x100) _ (moved_offset base (start F named_imports)) (reads_start m laid low w 6 (lit< tt))
        (does_read S (field base 0x104) _ (count F named_imports) (reads_count m laid low w 6 (lit< tt))
        (does_then S (loop (λ i _. serve_named r base (entry_at (moved_offset base (start F named_imports)) i 8)) 0 (count F named_imports) (tt {0})) _
        (changes_loop m T n v S (Linking F (export_for x m)) (λ i _. serve_named r base (entry_at (moved_offset base (start F named_imports)) i 8))
        (λ i. Begins F (named i)) (count F named_imports) (tt {0}) (λ i j e l g o a b. named-apart m laid low view n v i j e l g o a b)
        (λ i b ψ N l t. rw (named-at m laid low view n v i l) (serves_one i l t)) s)
        (λ _ N c.
        let u = shows_view m laid view c.1.shows in
        does_read S (field base 0xf0) _ (moved_offset base (start F module_entries)) (reads_start m laid low u 4 (lit< tt))
        (does_read S (field base 0xf4) _ (count F module_entries) (reads_count m laid low u 4 (lit< tt))
        (does_mono S
        (changes_loop m T n v S (Linking F (export_for x m)) (λ j _. serve_module r base (entry_at (moved_offset base (start F module_entries)) j 20))
        (EntryAsks m laid low view n v x)
        (count F module_entries) (tt {0}) (entries_apart m laid low view n v x)
        (λ j b ψ L l t. rw (entry-start m laid low view n v j l) (serves_entry j l t)) c.1)
        (λ _ L d. (d.0, d.1, change_iff serves_all serves_only (change-then (kinds_apart m laid low view n v x) c.2 d.2))))))))
