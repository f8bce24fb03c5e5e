-- The links of a standing module: for each external entry that begins an import's batch, the address found for it, or none.
use Prim.Native.Nat.{ℕ, zero, suc, ◌+◌, ◌%◌, ◌≤◌, ◌<◌}
use Rattle.std.specs.Prelude.{if◌then◌else◌, ◌≡◌, ◌≢◌, ◌⊎◌, Bool, Option, Some, None}
use Rattle.std.proofs.Math.Path.{refl, ap}
use Rattle.std.proofs.Common.{sym, ◌∙◌, inl, inr}
use Rattle.std.proofs.Math.Bool.{true, false}
use native.Mathlib.Omega.{arith}
use Rattle.std.proofs.Math.Decide.{dec_le, ℕ_discrete}
use Rattle.std.proofs.Math.Dec.{eqb}
use borrow.Author.Tests.{eq-eqb, ne_eqb}
use Rattle.window.specs.Within.{Low}
use Rattle.linker_spec.specs.Relocation.{apply_relocation_batch, batch_is_resolved}
use Rattle.history.specs.Image.{externals, count, entry, end_mark}
use Rattle.history.specs.LoadedModule.{Image, base_of, handler, Area}
use Rattle.history.specs.Imports.{Import, Batch, BatchOf}
use Rattle.history.specs.WellLaid.{WellLaid}
use Rattle.history.specs.Steps.Wp.{Memory, Does, ReadsValue, does_mono}
use Rattle.history.specs.Steps.View.{View}
use Rattle.history.specs.Steps.ModuleBytes.{upd, upd_same, upd_other, ModuleBytes}
use Rattle.history.specs.Steps.Batch.{Shows-same, Set, batch_does, reads_mark}

-- where the batch that holds entry j begins
unfoldable pub first_of : (ℕ → ℕ) → ℕ → ℕ
first_of F zero = 0
first_of F (suc j) = if eqb (end_mark F j) 0 then first_of F j else suc j

abbrev pub Links : Type 0
Links = ℕ → Option ℕ

unfoldable pub symbol_for : ℕ → Option ℕ → ℕ
symbol_for h (Some a) = a
symbol_for h None = h

unfoldable pub mark_for : Option ℕ → ℕ
mark_for (Some a) = 1
mark_for None = 0

unfoldable pub is_some : Option ℕ → Bool
is_some (Some a) = true
is_some None = false

-- other links at e
unfoldable pub relink : Links → ℕ → Option ℕ → Links
relink φ e x i = if eqb i e then x else φ i

pub relink-same : (φ : Links) (e : ℕ) (x : Option ℕ) → relink φ e x e ≡ x
unfolding relink
relink-same φ e x = rw (eq-eqb e e refl) refl

pub relink-other : (φ : Links) (e : ℕ) (x : Option ℕ) (i : ℕ) → i ≢ e → relink φ e x i ≡ φ i
unfolding relink
relink-other φ e x i n = rw (ne_eqb i e n) refl

module _ (m : Image) where
  abbrev F : ℕ → ℕ
  F = m.file

  unfoldable pub symbols : Links → ℕ → ℕ
  symbols φ j = symbol_for (handler m) (φ (first_of F j))

  unfoldable pub marks : Links → ℕ → ℕ
  marks φ j = mark_for (φ j)

  -- a standing module with these links and list words
  pub record Stands (T : Memory) (φ : Links) (n v : ℕ) (M : Memory) : Type 0 where
    pub shows : ModuleBytes m T (symbols φ) (marks φ) n v M

  first-low : (j : ℕ) → first_of F j ≤ j
  unfolding first_of
  first-low zero = omega arith
  first-low (suc j) = go (ℕ_discrete (end_mark F j) 0) (first-low j)
    where
      go : Dec (end_mark F j ≡ 0) → first_of F j ≤ j → (if eqb (end_mark F j) 0 then first_of F j else suc j) ≤ suc j
      go (yes e) l = rw (eq-eqb (end_mark F j) 0 e) (omega arith)
      go (no e) l = rw (ne_eqb (end_mark F j) 0 e) (omega arith)

  -- past an end mark
  first_past : (f j : ℕ) → end_mark F f ≢ 0 → f < j → f < first_of F j
  unfolding first_of
  first_past f zero n l = absurd (omega arith)
  first_past f (suc j) n l = go (ℕ_discrete (end_mark F j) 0) (first_past f j n)
    where
      go : Dec (end_mark F j ≡ 0) → (f < j → f < first_of F j) → f < (if eqb (end_mark F j) 0 then first_of F j else suc j)
      go (yes e) h = rw (eq-eqb (end_mark F j) 0 e) (h (elim (ℕ_discrete f j) [ yes y ↦ absurd (n (rw y e)) | no y ↦ omega arith ]))
      go (no e) h = rw (ne_eqb (end_mark F j) 0 e) l

  -- at a batch's first entry, and within the batch
  first_begin : (e f : ℕ) → Batch F e f → first_of F e ≡ e
  unfolding first_of
  first_begin e f b = go b.begins
    where
      go : (e ≡ 0) ⊎ ((d : ℕ) × (e ≡ suc d) × (end_mark F d ≢ 0)) → first_of F e ≡ e
      go (inl z) = rw z refl
      go (inr (d, z, n)) = rw (z, ne_eqb (end_mark F d) 0 n) refl

  first_more : (j : ℕ) → end_mark F j ≡ 0 → first_of F (suc j) ≡ first_of F j
  unfolding first_of
  first_more j z = rw (eq-eqb (end_mark F j) 0 z) refl

  pub first_in : (e f j : ℕ) → Batch F e f → e ≤ j → j ≤ f → first_of F j ≡ e
  first_in e f zero b l g = let z : e ≡ 0 = omega arith in rw (← z) (first_begin e f b)
  first_in e f (suc j) b l g =
      elim (ℕ_discrete (suc j) e) [
        | yes h ↦ rw h (first_begin e f b)
        | no h ↦ first_more j (b.goes_on j (omega arith) (omega arith)) ∙ first_in e f j b (omega arith) (omega arith)
      ]

  first_out : (e f j : ℕ) → Batch F e f → (e ≤ j → j ≤ f → ⊥) → first_of F j ≢ e
  first_out e f j b o h =
      elim (dec_le e j) [
        | yes l ↦ absurd (elim (dec_le j f) [ yes g ↦ o l g | no g ↦ absurd (omega (arith, h, first_past f j b.ends (omega arith), b.ordered)) ])
        | no l ↦ absurd (omega (arith, h, first-low j))
      ]

  -- new links at e give its batch a new symbol
  set_links : (φ : Links) (e f : ℕ) (x : Option ℕ) → Batch F e f → Set (symbols φ) (symbols (relink φ e x)) e f (symbol_for (handler m) x)
  unfolding symbols
  set_links φ e f x b =
      record {
        new = λ i l g. ap (symbol_for (handler m)) (rw (first_in e f i b l g) (relink-same φ e x));
        old = λ i o. ap (symbol_for (handler m)) (relink-other φ e x (first_of F i) (first_out e f i b o));
      }

  set-marks : (φ : Links) (e j : ℕ) (x : Option ℕ) → upd (marks φ) e (mark_for x) j ≡ marks (relink φ e x) j
  unfolding marks
  set-marks φ e j x = go (ℕ_discrete j e)
    where
      go : Dec (j ≡ e) → upd (marks φ) e (mark_for x) j ≡ mark_for (relink φ e x j)
      go (yes h) = rw h (upd_same (marks φ) e (mark_for x) ∙ ap mark_for (sym (relink-same φ e x)))
      go (no h) = upd_other (marks φ) e (mark_for x) j h ∙ ap mark_for (sym (relink-other φ e x j h))

  module _ (laid : WellLaid m) (low : Low (Area m)) {T : Memory} (view : View m T) (n v : ℕ) where
    abbrev base : ℕ
    base = base_of m.load_call

    -- an import's batch gets an address, or its handler's again
    pub links
        : {φ : Links} {M : Memory} (i : Import) (e f a : ℕ) → BatchOf F i e f → Stands T φ n v M
        → Does (Area m) (apply_relocation_batch base (base + entry F externals e) a true) (λ _ N. Stands T (relink φ e (Some a)) n v N) M
    unfolding symbol_for mark_for
    links {φ} i e f a b s =
        does_mono (Area m) (batch_does m laid low view n v i e f a true b (set_links φ e f (Some a) b.run) s.shows)
        (λ _ N t. record { shows = Shows-same m laid low view n v (λ j. refl) (λ j. set-marks φ e j (Some a)) t })

    pub unlinks
        : {φ : Links} {M : Memory} (i : Import) (e f : ℕ) → BatchOf F i e f → Stands T φ n v M
        → Does (Area m) (apply_relocation_batch base (base + entry F externals e) (handler m) false) (λ _ N. Stands T (relink φ e None) n v N) M
    unfolding symbol_for mark_for
    unlinks {φ} i e f b s =
        does_mono (Area m) (batch_does m laid low view n v i e f (handler m) false b (set_links φ e f None b.run) s.shows)
        (λ _ N t. record { shows = Shows-same m laid low view n v (λ j. refl) (λ j. set-marks φ e j None) t })

    -- and its mark says whether it is linked
    pub reads_linked
        : {φ : Links} {M : Memory} (e : ℕ) → e < count F externals → Stands T φ n v M
        → ReadsValue (Area m) (batch_is_resolved (base + entry F externals e)) (is_some (φ e)) M
    unfolding marks mark_for is_some
    reads_linked {φ} {M} e l s =
        does_mono (Area m) (reads_mark m laid low view n v e l s.shows) (λ b N h. (h.0 ∙ said (φ e), h.1))
      where
        said : (x : Option ℕ) → (if eqb (mark_for x % 256) 0 then false else true) ≡ is_some x
        said (Some a) = refl
        said None = refl
