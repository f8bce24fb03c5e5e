-- One import of a standing module: its batch, whether it is linked, and linking or unlinking it.
use Rattle.std.specs.Prelude.{if◌then◌else◌, ℕ, ◌+◌, ◌≤◌, ◌<◌, ◌≡◌, ◌≢◌, Bool, true, Option, Some, None}
use Rattle.std.proofs.Math.Path.{refl, ap}
use Rattle.std.proofs.Common.{sym, ◌∙◌, arith, lit<, ne_eqb}
use Rattle.std.proofs.Math.Bool.{false}
use Rattle.std.proofs.Math.Decide.{ℕ_discrete}
use Rattle.window.specs.Memory.{◌⊕◌}
use Rattle.window.specs.Access.{ret, ◌>>◌, get32}
use Rattle.window.specs.Within.{Low}
use Rattle.linker_spec.specs.Relocation.{apply_relocation_batch, batch_is_resolved}
use Rattle.linker_spec.specs.Imports.{is_unresolved, resolve}
use Rattle.linker_spec.specs.Resets.{reset, reset_at}
use Rattle.history.specs.Image.{tables, externals, count, entry}
use Rattle.history.specs.LoadedModule.{Image, base_of, size_of, moved_offset, handler, Area}
use Rattle.history.specs.Imports.{Import, named, indexed, anonymous, import_entry, IsImport, batch, BatchOf}
use Rattle.history.specs.WellLaid.{table, WellLaid}
use Rattle.history.specs.Steps.Wp.{Memory, Does, ReadsValue, does_ret, does_then, does_read, reads_then, reads_ret, reads_get32}
use Rattle.history.specs.Steps.View.{View, import_batch_field}
use Rattle.history.specs.Steps.Parts.{part-inside, entry-in_table, external_part}
use Rattle.history.specs.Steps.ModuleBytes.{shows_view}
use Rattle.history.specs.Steps.Batch.{Shows-same}
use Rattle.history.specs.Steps.Reading.{plain-sum, four_at, moved_sum}
use Rattle.history.specs.Steps.Links.{Links, relink, relink-same, relink-other, is_some, first_of, symbol_for, mark_for, symbols, marks, Stands, links, unlinks, reads_linked}

-- what a link becomes where the symbol is offered: one that stands stays
unfoldable pub link_to : Option ℕ → Option ℕ → Option ℕ
link_to (Some a) s = Some a
link_to None (Some a) = Some a
link_to None None = None

-- and where its module leaves
unfoldable pub unlink : Bool → Option ℕ → Option ℕ
unlink true x = None
unlink false x = x

module _ (m : Image) (laid : WellLaid m) (low : Low (Area m)) where
  abbrev F : ℕ → ℕ
  F = m.file

  abbrev base : ℕ
  base = base_of m.load_call

  abbrev S : ℕ → Type 0
  S = Area m

  -- an import's entry lies in the image
  pub import_inside : (i : Import) → IsImport F i → import_entry F i + 8 ≤ size_of m.load_call
  unfolding import_entry tables
  import_inside (named i) l = let e = part-inside m laid (table 6) _ (entry-in_table F 6 i 7 (lit< tt) l (lit< tt)) in omega (arith, e)
  import_inside (indexed i) l = let e = part-inside m laid (table 7) _ (entry-in_table F 7 i 7 (lit< tt) l (lit< tt)) in omega (arith, e)
  import_inside (anonymous i) l = let e = part-inside m laid (table 8) _ (entry-in_table F 8 i 7 (lit< tt) l (lit< tt)) in omega (arith, e)

  -- its batch, as an address
  first-inside : (i : Import) (e f : ℕ) → BatchOf F i e f → entry F externals e < size_of m.load_call
  first-inside i e f b =
      let x = part-inside m laid (table 5) _ (external_part m laid e 0 (omega (arith, b.run.ordered, b.run.inside)) (lit< tt)) in omega (arith, x)

  batch-address : (i : Import) (e f : ℕ) → BatchOf F i e f → moved_offset base (batch F i) ≡ base + entry F externals e
  batch-address i e f b =
      moved_sum m laid low (batch F i) b.nonzero (let x = first-inside i e f b in omega (arith, x, b.first)) ∙ ap (λ x. base + x) b.first

  -- the word at k of its entry
  import_plus : (i : Import) (k : ℕ) → IsImport F i → k < 8 → base + import_entry F i ⊕ k ≡ base + (import_entry F i + k)
  import_plus i k l h = let b = plain-sum m laid low (import_entry F i + k) (omega (arith, import_inside i l)) in omega (arith, b)

  module _ {T : Memory} (view : View m T) (n v : ℕ) where
    pub reads_batch
        : {M : Memory} → View m M → (i : Import) → IsImport F i → (e f : ℕ) → BatchOf F i e f
        → ReadsValue S (get32 (base + import_entry F i ⊕ 4)) (base + entry F externals e) M
    unfolding batch
    reads_batch w i l e f b =
        rw (import_plus i 4 l (lit< tt))
        (reads_get32 S _ (four_at m laid low (import_entry F i + 4) (omega (arith, import_inside i l)))
        (w.moved (import_entry F i + 4) (import_batch_field i l) ∙ batch-address i e f b))

    batch-not_0 : (i : Import) (e f : ℕ) → BatchOf F i e f → base + entry F externals e ≢ 0
    batch-not_0 i e f b z = b.nonzero (omega (arith, z, b.first))

    first_counted : (i : Import) (e f : ℕ) → BatchOf F i e f → e < count F externals
    first_counted i e f b = omega (arith, b.run.ordered, b.run.inside)

    pub reads_unresolved
        : {φ : Links} {M : Memory} (i : Import) (e f : ℕ) → BatchOf F i e f → Stands m T φ n v M
        → ReadsValue S (is_unresolved (base + entry F externals e)) (if is_some (φ e) then false else true) M
    unfolding is_unresolved
    reads_unresolved {φ} i e f b s =
        rw (ne_eqb (base + entry F externals e) 0 (batch-not_0 i e f b))
        (reads_then S (batch_is_resolved (base + entry F externals e)) _ (is_some (φ e)) (reads_linked m laid low view n v e (first_counted i e f b) s)
        (reads_ret S _))

    -- the links with one written again are the links
    stands_same : {φ ψ : Links} {M : Memory} → ((j : ℕ) → φ j ≡ ψ j) → Stands m T φ n v M → Stands m T ψ n v M
    unfolding symbols marks
    stands_same e s =
        record {
          shows = Shows-same m laid low view n v (λ j. ap (λ x. symbol_for (handler m) x) (e (first_of F j))) (λ j. ap mark_for (e j))
              s.shows;
        }

    again : (φ : Links) (e j : ℕ) → φ j ≡ relink φ e (φ e) j
    again φ e j =
        elim (ℕ_discrete j e) [ yes h ↦ rw h (sym (relink-same φ e (φ e))) | no h ↦ sym (relink-other φ e (φ e) j h) ]

    -- linking: only an import that is not linked changes
    pub resolves
        : {φ : Links} {M : Memory} (i : Import) (e f : ℕ) (x : Option ℕ) → BatchOf F i e f → Stands m T φ n v M
        → Does S (if (if is_some (φ e) then false else true) then resolve base (base + entry F externals e) x else ret tt)
        (λ _ N. Stands m T (relink φ e (link_to (φ e) x)) n v N) M
    unfolding resolve link_to is_some
    resolves {φ} {M} i e f x b s = go (φ e) refl x
      where
        go
            : (y : Option ℕ) → φ e ≡ y → (x : Option ℕ)
            → Does S (if (if is_some y then false else true) then resolve base (base + entry F externals e) x else ret tt)
            (λ _ N. Stands m T (relink φ e (link_to y x)) n v N) M
        go (Some a) z x = does_ret S (stands_same (λ j. again φ e j ∙ ap (λ y. relink φ e y j) z) s)
        go None z (Some a) =
            does_then S (apply_relocation_batch base (base + entry F externals e) a true) _ (links m laid low view n v i e f a b s)
            (λ _ N t. does_ret S t)
        go None z None = does_ret S (stands_same (λ j. again φ e j ∙ ap (λ y. relink φ e y j) z) s)

    -- unlinking: a linked import goes back to its handler
    pub resets
        : {φ : Links} {M : Memory} (i : Import) (e f : ℕ) → BatchOf F i e f → Stands m T φ n v M
        → Does S (reset base (handler m) (base + entry F externals e)) (λ _ N. Stands m T (relink φ e None) n v N) M
    unfolding reset is_some
    resets {φ} {M} i e f b s =
        rw (ne_eqb (base + entry F externals e) 0 (batch-not_0 i e f b))
        (does_read S (batch_is_resolved (base + entry F externals e)) _ (is_some (φ e)) (reads_linked m laid low view n v e (first_counted i e f b) s)
        (go (φ e) refl))
      where
        go
            : (y : Option ℕ) → φ e ≡ y
            → Does S
            (if is_some y then ◌>>◌ {B = Unit {0}} (apply_relocation_batch base (base + entry F externals e) (handler m) false) (ret tt) else ret tt)
            (λ _ N. Stands m T (relink φ e None) n v N) M
        go (Some a) z =
            does_then S (apply_relocation_batch base (base + entry F externals e) (handler m) false) _ (unlinks m laid low view n v i e f b s)
            (λ _ N t. does_ret S t)
        go None z = does_ret S (stands_same (λ j. again φ e j ∙ ap (λ y. relink φ e y j) z) s)

    pub resets_at
        : {φ : Links} {M : Memory} (i : Import) → IsImport F i → (e f : ℕ) → BatchOf F i e f → Stands m T φ n v M
        → Does S (reset_at base (handler m) (base + import_entry F i)) (λ _ N. Stands m T (relink φ e None) n v N) M
    unfolding reset_at
    resets_at i l e f b s =
        does_read S (get32 (base + import_entry F i ⊕ 4)) _ (base + entry F externals e) (reads_batch (shows_view m laid view s.shows) i l e f b)
        (resets i e f b s)
