-- The search for a name among exports that wait, and the export of one name put to them.
use Rattle.std.specs.declared.cmp.Ordering.{Ordering}
use Rattle.std.specs.declared.cmp.Ordering.TheVariants.{Less, Equal, Greater}
use Rattle.std.proofs.Common.{◌≡◌, ℕ, ◌+◌, ◌-◌, ◌*◌, ◌/◌, ◌^◌, ◌<◌, ◌≤◌, Bool, true, false, leb, List, [], ◌∷◌, ◌++◌, length, get_or, take, drop, sym, refl, ap, ◌∙◌, subst, arith, length-drop, length-take-le, leb-true, Option, Some, None, Result, Ok, Err}
use lib.Seq.{sets}
use Rattle.window.specs.Name.{no_zero, is_name, name_at-is_name, order_of}
use Rattle.window.specs.Word.{set_word_in}
use Rattle.window.specs.Tests.{both}
use Rattle.register.specs.Words.{part, flat, words_in}
use Rattle.register.specs.Module.{Export, Module}
use Rattle.register.specs.Order.{Between, name_in, position_of, between-all, between_none, between-after, between_before, between-same}
use Rattle.register.specs.declared.append.draft.Draft.{Draft}
use Rattle.register.specs.Append.Draft.{room_in, export_fits}
use Rattle.linker.specs.Exports.Writing.{Ground}
use Rattle.linker.specs.Exports.Waiting.{Waiting, Inside, Waits, name_for, exports_for, length_exports, waits-count, waits_order}
use Rattle.linker.specs.Exports.Gathered.{EndsWithin, Gathered, GatherStep, PutStep, gathered_to, gathered-waits, gathered_again, gathered_full, gathered-new}

module _ (at : ℕ) (w bytes name : List ℕ) where
  -- whatever waits in the bytes, the name stands between the bounds
  abbrev pub Searched : ℕ → ℕ → Type 0
  Searched low high = (xs : List Waiting) → Waits at w xs bytes → no_zero name ≡ true → Between (exports_for at w xs) name low high

  pub search_starts : Searched 0 (length bytes / 8)
  search_starts xs h z =
      subst (Between (exports_for at w xs) name 0) (length_exports at w xs ∙ sym (waits-count at w h)) (between-all (exports_for at w xs) name)

  abbrev Found : Result ℕ ℕ → Type 0
  Found p = (xs : List Waiting) → Waits at w xs bytes → no_zero name ≡ true → p ≡ position_of (exports_for at w xs) name

  module _ {low high : ℕ} (b : Searched low high) where
    pub search_none : high ≤ low → Found (Err low)
    search_none l xs h z = between_none (b xs h z) l

    -- the one in the middle, compared where its name stands
    module _ (middle : ℕ) {place : ℕ} {o : Ordering} (l : low ≤ middle) (g : middle < high) (n : high ≤ length bytes / 8)
        (ep : place ≡ get_or (words_in bytes) (2 * middle) 0) (f : no_zero name ≡ true → o ≡ order_of name (name_for at w place)) where
      ordered : (xs : List Waiting) (h : Waits at w xs bytes) → no_zero name ≡ true → order_of name (name_in (exports_for at w xs) middle) ≡ o
      ordered xs h z = sym (waits_order at w h middle name (omega (arith, waits-count at w h)) ep (f z))

      pub search_below : o ≡ Less → Searched low middle
      search_below e xs h z = between_before (b xs h z) h.ascends middle l g (ordered xs h z ∙ e)

      pub search_above : o ≡ Greater → Searched (middle + 1) high
      search_above e xs h z = between-after (b xs h z) h.ascends middle l g (ordered xs h z ∙ e)

      pub search_found : o ≡ Equal → Found (Ok middle)
      search_found e xs h z = between-same (b xs h z) h.ascends middle l g (ordered xs h z ∙ e)

-- a place among those that wait between two places of the records

module _ (records : List ℕ) (from to k : ℕ) (p : Result ℕ ℕ) (i : Inside p (length (take (to - from) (drop from records)) / 8)) (h : from ≤ to)
    (r : to ≤ length records) where
  slice_long : length (take (to - from) (drop from records)) ≡ to - from
  slice_long = length-take-le (to - from) (drop from records) (omega (arith, length-drop from records))

  pub at_place : p ≡ Ok k → from + 8 * k + 8 ≤ to
  unfolding Inside
  at_place e =
      let l : k < length (take (to - from) (drop from records)) / 8 =
      subst (λ t. Inside t (length (take (to - from) (drop from records)) / 8)) e i in
      omega (arith, slice_long)

  pub before_place : p ≡ Err k → from + 8 * k ≤ to
  unfolding Inside
  before_place e =
      let l : k ≤ length (take (to - from) (drop from records)) / 8 =
      subst (λ t. Inside t (length (take (to - from) (drop from records)) / 8)) e i in
      omega (arith, slice_long)

-- room for a name, as the code has tested it
pub fits-room
    : (records names : List ℕ) (d : Draft) (count : ℕ) {t : Bool} → t ≡ export_fits records names d count → t ≡ true
    → (d.end + 12 ≤ room_in (length records)) × (d.last + count ≤ room_in (length names))
unfolding export_fits
fits-room records names d count e z =
    let b = both (leb (d.end + 12) (room_in (length records))) (leb (d.last + count) (room_in (length names))) (sym e ∙ z) in
    (leb-true (d.end + 12) (room_in (length records)) b.0, leb-true (d.last + count) (room_in (length names)) b.1)

pub ends_open : (d : Draft) (from to : ℕ) → from ≤ d.end → d.end ≤ to → d.last < 2 ^ 32 → EndsWithin (Some d) from to
unfolding EndsWithin
ends_open d from to h g s = (h, g, s)

pub ends_full : (from to : ℕ) → EndsWithin None from to
unfolding EndsWithin
ends_full from to = tt

pub open_ends : (r : Option Draft) (d : Draft) (from to : ℕ) → EndsWithin r from to → r ≡ Some d → (from ≤ d.end) × (d.end ≤ to) × (d.last < 2 ^ 32)
unfolding EndsWithin
open_ends r d from to h e = subst (λ x. EndsWithin x from to) e h

-- the export of the name at `place` put: what its position among those that wait tells

module _ (at : ℕ) (w : List ℕ) (place a k count : ℕ) (rs ns name : List ℕ) (from to : ℕ) (last : Draft) {p : Result ℕ ℕ}
    (et : to ≡ from + 8 * ((last.end - from) / 12))
    (found : (xs : List Waiting) → Waits at w xs (take (to - from) (drop from rs)) → no_zero name ≡ true
    → p ≡ position_of (exports_for at w xs) name)
    (en : name ≡ name_for at w place) (ec : count ≡ length name) (small : a < 2 ^ 32) (g : Ground) (m : Module) (first : Draft)
    (exports : List Export) (ef : from ≡ first.end) (h : Gathered at w g m first exports last rs ns) where
  to_is : to ≡ first.end + 8 * length h.waiting
  to_is = et ∙ ap (λ f. f + 8 * ((last.end - f) / 12)) ef ∙ gathered_to at w g m first h

  no_zero_lem : no_zero name ≡ true
  unfolding is_name
  no_zero_lem = ap no_zero en ∙ (both (leb (length (name_for at w place)) 512) (no_zero (name_for at w place)) (name_at-is_name at place w)).1

  position_is : p ≡ position_of exports (name_for at w place)
  position_is =
      found h.waiting
      (subst (λ f. Waits at w h.waiting (take (to - f) (drop f rs))) (sym ef)
      (gathered-waits at w g m first h (to - first.end) (omega (arith, to_is))))
      no_zero_lem
      ∙ ap (λ t. position_of t name) h.are ∙ ap (position_of exports) en

  pub again_step
      : {rs' : List ℕ} → p ≡ Ok k → rs' ≡ set_word_in rs (from + 8 * k + 4) a → PutStep at w g m first exports place a (Some last) rs rs' ns
  unfolding GatherStep
  again_step e f = rw (f, ef) (gathered_again at w g m first h place a k small (sym position_is ∙ e))

  count_is : count ≡ length (name_for at w place)
  count_is = ec ∙ ap length en

  module _ {t : Bool} (e : p ≡ Err k) (er : t ≡ export_fits rs ns last count) where
    pub full_step : t ≡ false → PutStep at w g m first exports place a None rs rs ns
    unfolding GatherStep
    full_step z = (
      refl,
      gathered_full at w g m first h place a k small (sym position_is ∙ e) (ap (export_fits rs ns last) (sym count_is) ∙ sym er ∙ z),
    )

    pub new-step
        : {rs' : List ℕ} → t ≡ true → place < 2 ^ 32
        → rs' ≡ sets rs (from + 8 * k) (flat (place ∷ a ∷ []) ++ part rs (from + 8 * k) (to - (from + 8 * k)))
        → PutStep at w g m first exports place a
        (Some (record { start = last.start; end = last.end + 12; names = last.names; last = last.last + count })) rs rs' ns
    unfolding GatherStep
    new-step z hp f =
        rw (f, ef, count_is)
        (gathered-new at w g m first h place a k small (sym position_is ∙ e) hp (ap (export_fits rs ns last) (sym count_is) ∙ sym er ∙ z) to to_is)
