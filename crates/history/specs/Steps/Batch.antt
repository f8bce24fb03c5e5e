-- A batch: its entries get a symbol, and its first entry the mark.
use Prim.Native.Nat.{ℕ, zero, suc, ◌+◌, ◌%◌, ◌≤◌, ◌<◌}
use Rattle.std.specs.Prelude.{if◌then◌else◌, ◌≡◌, ◌≢◌, Bool, true, false, Option, Some, None}
use Rattle.std.proofs.Math.Path.{refl, sym, ap}
use Rattle.std.proofs.Common.{◌∙◌, arith, lit<, eq-eqb, ne_eqb}
use Rattle.std.proofs.Math.Decide.{ℕ_discrete}
use Rattle.std.proofs.Math.Dec.{eqb}
use Rattle.window.specs.Memory.{◌⊕◌}
use Rattle.window.specs.Access.{ret, get8, get32, put8}
use Rattle.window.specs.Within.{Low}
use Rattle.layout.specs.Header.{relocation_entry_size}
use Rattle.layout.specs.Format.{relocation_type}
use Rattle.layout.specs.Relocation.Relocation.{relocated_word, patch, apply_relocation}
use Rattle.layout.specs.Segments.{tag_to_address}
use Rattle.layout.specs.declared.format.RelocationType.{RelocationType}
use Rattle.layout.specs.declared.format.RelocationType.TheVariants.{AbsoluteAddress, RelativeAddress, ThumbBranch, ArmBranch, ModifyArmBranch, AlignedRelativeAddress, Unknown}
use Rattle.linker_spec.specs.Relocation.{relocate_at, walk, batch_limit, mark, apply_relocation_batch, batch_is_resolved}
use Rattle.history.specs.Image.{externals, count, entry, tag, kind, addend, end_mark}
use Rattle.history.specs.LoadedModule.{Image, base_of, size_of, address, Area}
use Rattle.history.specs.Imports.{Import, BatchOf}
use Rattle.history.specs.WellLaid.{table, external, WordAt, Writes, WellLaid}
use Rattle.history.specs.Steps.Wp.{Memory, Does, ReadsValue, does_ret, does_then, does_read, ends_put8, ends_privileged, reads_then, reads_ret, reads_get8, reads_get32}
use Rattle.history.specs.Steps.View.{View, relocation_tag, relocation_addend, relocation_kind, relocation_end}
use Rattle.history.specs.Steps.Parts.{image_area, part-inside, external_part}
use Rattle.history.specs.Steps.ModuleBytes.{upd, upd_same, upd_other, word_for, value_of, mark_at, ModuleBytes, put_word_lem, put-mark, shows_view, is_mark, moving_area}
use Rattle.history.specs.Steps.Reading.{plain-sum, four_at, reads_address}

-- whether a kind writes does not hang on the addend, the symbol or the place
pub data Sort (t : RelocationType) : Type 0 where
  writes : ((d a p : ℕ) → (v : ℕ) × (relocated_word t d a p ≡ Some v)) → Sort t
  writes_not : ((d a p : ℕ) → relocated_word t d a p ≡ None) → Sort t

pub sort : (t : RelocationType) → Sort t
sort RelocationType.Nothing = writes_not (λ d a p. refl)
sort AbsoluteAddress = writes (λ d a p. (a ⊕ d, refl))
sort RelativeAddress = writes (λ d a p. (_, refl))
sort ThumbBranch = writes_not (λ d a p. refl)
sort ArmBranch = writes_not (λ d a p. refl)
sort ModifyArmBranch = writes_not (λ d a p. refl)
sort AlignedRelativeAddress = writes_not (λ d a p. refl)
sort (Unknown k) = writes_not (λ d a p. refl)

-- ρ is σ, but a on j to f
pub record Set (σ ρ : ℕ → ℕ) (j f a : ℕ) : Type 0 where
  pub new : (i : ℕ) → j ≤ i → i ≤ f → ρ i ≡ a
  pub old : (i : ℕ) → (j ≤ i → i ≤ f → ⊥) → ρ i ≡ σ i

pub nowhere_no : (p : ℕ) → ◌≡◌ {A = Option ℕ} None (Some p) → ⊥
nowhere_no p e = absurd (omega (arith, ap number e))
  where
    number : Option ℕ → ℕ
    number (Some q) = 0
    number None = 1

pub word_nothing : (v : ℕ) → ◌≡◌ {A = Option ℕ} (Some v) None → ⊥
word_nothing v e = absurd (omega (arith, ap number e))
  where
    number : Option ℕ → ℕ
    number (Some u) = 0
    number None = 1

module _ (m : Image) (laid : WellLaid m) (low : Low (Area m)) {T : Memory} (view : View m T) (n v : ℕ) where
  abbrev F : ℕ → ℕ
  F = m.file

  abbrev base : ℕ
  base = base_of m.load_call

  abbrev S : ℕ → Type 0
  S = Area m

  -- equal symbols and marks show the same
  pub Shows-same
      : {σ ρ μ ν : ℕ → ℕ} {M : Memory} → ((j : ℕ) → σ j ≡ ρ j) → ((j : ℕ) → μ j ≡ ν j) → ModuleBytes m T σ μ n v M → ModuleBytes m T ρ ν n v M
  Shows-same e g s =
      record {
        words = λ j p k l h. rw (← e j) (s.words j p k l h);
        marks = λ j l. rw (← g j) (s.marks j l);
        nexts = s.nexts;
        previouses = s.previouses;
        rest = s.rest;
      }

  -- an entry without a word has any symbol
  no_word
      : {σ μ : ℕ → ℕ} {M : Memory} (j a : ℕ) → ((p : ℕ) → WordAt m (external j) p → ⊥) → ModuleBytes m T σ μ n v M → ModuleBytes m T (upd σ j a) μ n v M
  no_word {σ} j a h s =
      record {
        words = λ i p k l g. rw (upd_other σ j a i (λ e. h p (rw e at g))) (s.words i p k l g);
        marks = s.marks;
        nexts = s.nexts;
        previouses = s.previouses;
        rest = s.rest;
      }

  pub word_address : (j p : ℕ) → WordAt m (external j) p → address m (tag F externals j) ≡ Some p
  unfolding WordAt
  word_address j p h = h.2

  pub word_at
      : (j p : ℕ) → j < count F externals → Writes m (kind F externals j) → address m (tag F externals j) ≡ Some p → WordAt m (external j) p
  unfolding WordAt
  word_at j p l w e = (l, w, e)

  pub word_writes_not
      : (j p : ℕ) → ((d a q : ℕ) → relocated_word (relocation_type (kind F externals j)) d a q ≡ None) → WordAt m (external j) p → ⊥
  unfolding WordAt
  word_writes_not j p f h = word_nothing h.1.0 (sym h.1.1 ∙ f 0 0 0)

  pub value_is
      : (j a p u : ℕ) → relocated_word (relocation_type (kind F externals j)) (addend F externals j) a p ≡ Some u → value_of m j a p ≡ u
  unfolding value_of word_for
  value_is j a p u e = ap word_for e

  -- one entry gets the symbol a
  pub relocates
      : {σ μ : ℕ → ℕ} {M : Memory} (j a : ℕ) → j < count F externals → ModuleBytes m T σ μ n v M
      → Does S (relocate_at (address m (tag F externals j)) (kind F externals j) (addend F externals j) a) (λ _ N. ModuleBytes m T (upd σ j a) μ n v N) M
  unfolding relocate_at apply_relocation patch
  relocates {σ} {μ} {M} j a l s = go (address m (tag F externals j)) refl
    where
      t : RelocationType
      t = relocation_type (kind F externals j)

      go
          : (x : Option ℕ) → address m (tag F externals j) ≡ x
          → Does S (relocate_at x (kind F externals j) (addend F externals j) a) (λ _ N. ModuleBytes m T (upd σ j a) μ n v N) M
      go None e = does_ret S (no_word j a (λ p h. nowhere_no p (sym e ∙ word_address j p h)) s)
      go (Some p) e = at-sort (sort t)
        where
          at-sort : Sort t → Does S (patch p (relocated_word t (addend F externals j) a p)) (λ _ N. ModuleBytes m T (upd σ j a) μ n v N) M
          at-sort (writes f) =
              let h : WordAt m (external j) p = word_at j p l (f 0 0 0) e in
              let g = f (addend F externals j) a p in
              rw g.1
              (ends_privileged S p g.0 (λ k i. laid.in_place_lem.words_inside_lem (external j) p h (p + k) (omega arith, omega arith))
              (rw (value_is j a p g.0 g.1) at (put_word_lem m laid j p a h s)))
          at-sort (writes_not f) = rw (f (addend F externals j) a p) (does_ret S (no_word j a (λ q h. word_writes_not j q f h) s))

  -- an external entry lies in the image
  pub entry-inside : (j : ℕ) → j < count F externals → entry F externals j + 12 ≤ size_of m.load_call
  entry-inside j l = let e = part-inside m laid (table 5) (entry F externals j + 11) (external_part m laid j 11 l (lit< tt)) in omega (arith, e)

  pub entry-plus : (j k : ℕ) → j < count F externals → k < 12 → base + entry F externals j ⊕ k ≡ base + (entry F externals j + k)
  entry-plus j k l h = let b = plain-sum m laid low (entry F externals j + k) (omega (arith, entry-inside j l)) in omega (arith, b)

  pub mark-sum : (j : ℕ) → j < count F externals → base + entry F externals j ⊕ 6 ≡ mark_at m j
  unfolding mark_at
  mark-sum j l = entry-plus j 6 l (lit< tt)

  next-entry : (j : ℕ) → suc j < count F externals → base + entry F externals j ⊕ 12 ≡ base + entry F externals (suc j)
  unfolding entry
  next-entry j l =
      let b = plain-sum m laid low (entry F externals (suc j)) (omega (arith, entry-inside (suc j) l)) in omega (arith, b)

  module _ {M : Memory} (w : View m M) (j : ℕ) (l : j < count F externals) where
    pub reads_tag : ReadsValue S (get32 (base + entry F externals j)) (tag F externals j) M
    unfolding tag
    reads_tag =
        reads_get32 S _ (four_at m laid low (entry F externals j) (omega (arith, entry-inside j l)))
        (w.kept (entry F externals j) (relocation_tag j l))

    pub reads_kind : ReadsValue S (get8 (base + entry F externals j ⊕ 4)) (kind F externals j) M
    unfolding kind
    reads_kind =
        rw (entry-plus j 4 l (lit< tt))
        (reads_get8 S _ (image_area m laid (entry F externals j + 4) (omega (arith, entry-inside j l)))
        (w.kept_byte (entry F externals j + 4) (relocation_kind j l)))

    reads_end : ReadsValue S (get8 (base + entry F externals j ⊕ 5)) (end_mark F j) M
    unfolding end_mark
    reads_end =
        rw (entry-plus j 5 l (lit< tt))
        (reads_get8 S _ (image_area m laid (entry F externals j + 5) (omega (arith, entry-inside j l)))
        (w.kept_byte (entry F externals j + 5) (relocation_end j l)))

    pub reads_addend : ReadsValue S (get32 (base + entry F externals j ⊕ 8)) (addend F externals j) M
    unfolding addend
    reads_addend =
        rw (entry-plus j 8 l (lit< tt))
        (reads_get32 S _ (four_at m laid low (entry F externals j + 8) (omega (arith, entry-inside j l)))
        (w.kept (entry F externals j + 8) (relocation_addend j l)))

  -- entries j to f, f being the first from j on with an end mark
  record BatchRest (j f : ℕ) : Type 0 where
    ordered : j ≤ f
    inside : f < count F externals
    goes_on : (i : ℕ) → j ≤ i → i < f → end_mark F i ≡ 0
    ends : end_mark F f ≢ 0

  walks
      : (fuel : ℕ) {σ ρ μ : ℕ → ℕ} {M : Memory} (j f a k : ℕ) → BatchRest j f → f < j + fuel → Set σ ρ j f a → ModuleBytes m T σ μ n v M
      → Does S (walk fuel base a (base + entry F externals j) k) (λ _ N. ModuleBytes m T ρ μ n v N) M
  unfolding walk
  walks zero j f a k r l e s = absurd (omega (arith, r.ordered))
  walks (suc fuel) {σ} {ρ} {μ} {M} j f a k r l e s =
      let w = shows_view m laid view s in
      let i : j < count F externals = omega (arith, r.ordered, r.inside) in
      does_read S (get32 (base + entry F externals j)) _ (tag F externals j) (reads_tag w j i)
      (does_read S (get8 (base + entry F externals j ⊕ 4)) _ (kind F externals j) (reads_kind w j i)
      (does_read S (get8 (base + entry F externals j ⊕ 5)) _ (end_mark F j) (reads_end w j i)
      (does_read S (get32 (base + entry F externals j ⊕ 8)) _ (addend F externals j) (reads_addend w j i)
      (does_read S (tag_to_address base (tag F externals j)) _ (address m (tag F externals j)) (reads_address m laid low w (tag F externals j))
      (does_then S (relocate_at (address m (tag F externals j)) (kind F externals j) (addend F externals j) a) _ (relocates j a i s)
      (λ _ N t. go N t (ℕ_discrete j f) (walks fuel {σ = upd σ j a} {ρ = ρ} {μ = μ} {M = N} (suc j) f a (suc k))))))))
    where
      go
          : (N : Memory) → ModuleBytes m T (upd σ j a) μ n v N → Dec (j ≡ f)
          → (BatchRest (suc j) f → f < suc j + fuel → Set (upd σ j a) ρ (suc j) f a → ModuleBytes m T (upd σ j a) μ n v N
          → Does S (walk fuel base a (base + entry F externals (suc j)) (suc k)) (λ _ L. ModuleBytes m T ρ μ n v L) N)
          → Does S
          (if eqb (end_mark F j) 0 then walk fuel base a (base + entry F externals j ⊕ relocation_entry_size) (suc k) else ret (suc k))
          (λ _ L. ModuleBytes m T ρ μ n v L) N
      go N t (yes d) h =
          rw (ne_eqb (end_mark F j) 0 (λ z. r.ends (rw d at z)))
          (does_ret S (Shows-same (λ x. last x (ℕ_discrete x j)) (λ x. refl) t))
        where
          last : (x : ℕ) → Dec (x ≡ j) → upd σ j a x ≡ ρ x
          last x (yes y) = rw y (upd_same σ j a ∙ sym (e.new j (omega arith) (omega arith)))
          last x (no y) = upd_other σ j a x y ∙ sym (e.old x (λ p q. y (omega arith)))
      go N t (no d) h =
          rw (eq-eqb (end_mark F j) 0 (r.goes_on j (omega arith) less), next)
          (h (record { ordered = less; inside = r.inside; goes_on = λ x p q. r.goes_on x (omega arith) q; ends = r.ends }) (omega arith)
          (record { new = λ x p q. e.new x (omega arith) q; old = λ x o. other x o (ℕ_discrete x j) }) t)
        where
          less : j < f
          less = omega (arith, r.ordered)

          next : base + entry F externals j ⊕ relocation_entry_size ≡ base + entry F externals (suc j)
          next = next-entry j (omega (arith, less, r.inside))

          other : (x : ℕ) → (suc j ≤ x → x ≤ f → ⊥) → Dec (x ≡ j) → ρ x ≡ upd σ j a x
          other x o (yes y) = rw y (e.new j (omega arith) (omega arith) ∙ sym (upd_same σ j a))
          other x o (no y) = e.old x (λ p q. o (omega arith) q) ∙ sym (upd_other σ j a x y)

  -- the batch of an import, with its mark
  pub batch_does
      : {σ ρ μ : ℕ → ℕ} {M : Memory} (i : Import) (e f a : ℕ) (b : Bool) → BatchOf F i e f → Set σ ρ e f a → ModuleBytes m T σ μ n v M
      → Does S (apply_relocation_batch base (base + entry F externals e) a b) (λ _ N. ModuleBytes m T ρ (upd μ e (mark b)) n v N) M
  unfolding apply_relocation_batch
  batch_does {σ} {ρ} {μ} {M} i e f a b h g s =
      does_then S (walk batch_limit base a (base + entry F externals e) 0) _
      (walks batch_limit e f a 0 (record { ordered = h.run.ordered; inside = h.run.inside; goes_on = h.run.goes_on; ends = h.run.ends })
      h.short g s)
      (λ k N t.
      does_then S (put8 (base + entry F externals e ⊕ 6) (mark b)) _
      (rw (mark-sum e (omega (arith, h.run.ordered, h.run.inside)))
      (ends_put8 S (mark_at m e) (mark b) (moving_area m laid (mark_at m e) (is_mark e (omega (arith, h.run.ordered, h.run.inside))))
      (put-mark m laid e (mark b) (omega (arith, h.run.ordered, h.run.inside)) t)))
      (λ _ L u. does_ret S u))

  -- whether it is resolved is what its mark says
  pub reads_mark
      : {σ μ : ℕ → ℕ} {M : Memory} (e : ℕ) → e < count F externals → ModuleBytes m T σ μ n v M
      → ReadsValue S (batch_is_resolved (base + entry F externals e)) (if eqb (μ e % 256) 0 then false else true) M
  unfolding batch_is_resolved
  reads_mark {σ} {μ} {M} e l s =
      reads_then S (get8 (base + entry F externals e ⊕ 6)) _ (μ e % 256)
      (rw (mark-sum e l) (reads_get8 S (mark_at m e) (moving_area m laid (mark_at m e) (is_mark e l)) (s.marks e l))) (reads_ret S _)
