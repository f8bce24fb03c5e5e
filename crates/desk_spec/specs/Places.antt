-- Laws of places: one that changes, a caller's own, and the one that a turn serves.
use Prim.Native.Nat.{ℕ, zero, suc, ◌+◌, ◌-◌, ◌≤◌, ◌<◌}
use Rattle.std.specs.Prelude.{◌≡◌, Bool, true, false, ◌||◌, length, drop, leb, Option, Some, None}
use Rattle.std.proofs.Math.Path.{refl, sym, ap}
use Rattle.std.proofs.Common.{◌∙◌, get_or-drop, leb-false, eq-eqb, ne_eqb}
use mathlib.Core.List.{List, [], ◌∷◌}
use native.Mathlib.Omega.{arith}
use Rattle.std.proofs.Math.Decide.{ℕ_discrete, dec_lt}
use Rattle.history.specs.Below.{Each}
use Rattle.desk_spec.specs.Desk.{Place, place, Desk, most_places, most_waiting, place_at, with_place, place_of, no_room_for, first_waiting, or_else, turn_of}

-- a place changes, or a new one comes

module _ (p : Place) where
  pub length-with : (ps : List Place) (i : ℕ) → i < length ps → length (with_place ps i p) ≡ length ps
  unfolding with_place
  length-with [] i h = absurd (omega arith)
  length-with (q ∷ qs) zero h = refl
  length-with (q ∷ qs) (suc i) h = ap suc (length-with qs i (omega arith))

  pub length-behind : (ps : List Place) (i : ℕ) → length ps ≤ i → length (with_place ps i p) ≡ suc (length ps)
  unfolding with_place
  length-behind [] i h = refl
  length-behind (q ∷ qs) zero h = absurd (omega arith)
  length-behind (q ∷ qs) (suc i) h = ap suc (length-behind qs i (omega arith))

  pub at-changed : (ps : List Place) (i : ℕ) → i ≤ length ps → place_at (with_place ps i p) i ≡ p
  unfolding place_at with_place
  at-changed [] zero h = refl
  at-changed [] (suc i) h = absurd (omega arith)
  at-changed (q ∷ qs) zero h = refl
  at-changed (q ∷ qs) (suc i) h = at-changed qs i (omega arith)

  pub at_other : (ps : List Place) (i j : ℕ) → i ≤ length ps → (j ≡ i → ⊥) → place_at (with_place ps i p) j ≡ place_at ps j
  unfolding place_at with_place
  at_other [] zero zero h n = absurd (n refl)
  at_other [] zero (suc j) h n = refl
  at_other [] (suc i) j h n = absurd (omega arith)
  at_other (q ∷ qs) zero zero h n = absurd (n refl)
  at_other (q ∷ qs) zero (suc j) h n = refl
  at_other (q ∷ qs) (suc i) zero h n = refl
  at_other (q ∷ qs) (suc i) (suc j) h n = at_other qs i j (omega arith) (λ e. n (ap suc e))

pub each_with : (P : Place → Type 0) (ps : List Place) (i : ℕ) (p : Place) → Each P ps → P p → Each P (with_place ps i p)
unfolding Each with_place
each_with P [] i p h g = (g, tt)
each_with P (q ∷ qs) zero p h g = (g, h.1)
each_with P (q ∷ qs) (suc i) p h g = (h.0, each_with P qs i p h.1 g)

-- what holds of each place, and of nobody's, holds at any number
pub each_place : (P : Place → Type 0) (ps : List Place) (i : ℕ) → Each P ps → P (place 0 []) → P (place_at ps i)
unfolding Each place_at
each_place P [] i h g = g
each_place P (q ∷ qs) zero h g = h.0
each_place P (q ∷ qs) (suc i) h g = each_place P qs i h.1 g

-- a caller's own place

module _ (c : ℕ) where
  pub found-at_once : (q : Place) (qs : List Place) → q.caller ≡ c → place_of c (q ∷ qs) ≡ 0
  unfolding place_of
  found-at_once q qs e = rw (eq-eqb q.caller c e)

  pub found_later : (q : Place) (qs : List Place) → (q.caller ≡ c → ⊥) → place_of c (q ∷ qs) ≡ suc (place_of c qs)
  unfolding place_of
  found_later q qs n = rw (ne_eqb q.caller c n)

  pub found_within : (ps : List Place) → place_of c ps ≤ length ps
  unfolding place_of
  found_within [] = omega arith
  found_within (q ∷ qs) =
      let h = found_within qs in
      elim (ℕ_discrete q.caller c) [ yes e ↦ rw (found-at_once q qs e) (omega arith) | no n ↦ rw (found_later q qs n) (omega arith) ]

  pub own_caller : (ps : List Place) → place_of c ps < length ps → (place_at ps (place_of c ps)).caller ≡ c
  unfolding place_at
  own_caller [] h = absurd (omega arith)
  own_caller (q ∷ qs) h =
      elim (ℕ_discrete q.caller c) [
        | yes e ↦ rw (found-at_once q qs e) e
        | no n ↦
            let h₁ : suc (place_of c qs) < suc (length qs) = rw (found_later q qs n) at h in
            rw (found_later q qs n) (own_caller qs (omega arith))
      ]

  -- it stays, whatever place keeps its caller
  pub own_kept
      : (ps : List Place) (i : ℕ) (p : Place) → i < length ps → p.caller ≡ (place_at ps i).caller → place_of c (with_place ps i p) ≡ place_of c ps
  unfolding place_at with_place place_of
  own_kept [] i p h e = absurd (omega arith)
  own_kept (q ∷ qs) zero p h e = rw e
  own_kept (q ∷ qs) (suc i) p h e = rw (own_kept qs i p (omega arith) e)

  -- and where a new place comes
  pub own_before : (ps : List Place) (i : ℕ) (p : Place) → length ps ≤ i → place_of c ps < length ps → place_of c (with_place ps i p) ≡ place_of c ps
  unfolding with_place
  own_before [] i p h l = absurd (omega arith)
  own_before (q ∷ qs) zero p h l = absurd (omega arith)
  own_before (q ∷ qs) (suc i) p h l =
      elim (ℕ_discrete q.caller c) [
        | yes e ↦ found-at_once q (with_place qs i p) e ∙ sym (found-at_once q qs e)
        | no n ↦
            let l₁ : suc (place_of c qs) < suc (length qs) = rw (found_later q qs n) at l in
            found_later q (with_place qs i p) n ∙ ap suc (own_before qs i p (omega arith) (omega arith)) ∙ sym (found_later q qs n)
      ]

  -- and where the caller itself sends
  pub own_sent : (ps : List Place) (waiting : List ℕ) → place_of c (with_place ps (place_of c ps) (place c waiting)) ≡ place_of c ps
  unfolding with_place place_of
  own_sent [] waiting = found-at_once (place c waiting) [] refl
  own_sent (q ∷ qs) waiting =
      elim (ℕ_discrete q.caller c) [
        | yes e ↦ rw (found-at_once q qs e) (found-at_once (place c waiting) qs refl)
        | no n ↦
            rw (found_later q qs n)
            (found_later q (with_place qs (place_of c qs) (place c waiting)) n ∙ ap suc (own_sent qs waiting))
      ]

-- or another
pub own_stays
    : (c : ℕ) (ps : List Place) (sender : ℕ) (waiting : List ℕ) → place_of c ps < length ps
    → place_of c (with_place ps (place_of sender ps) (place sender waiting)) ≡ place_of c ps
own_stays c ps sender waiting l =
    elim (dec_lt (place_of sender ps) (length ps)) [
      | yes h ↦ own_kept c ps (place_of sender ps) (place sender waiting) h (sym (own_caller sender ps h))
      | no h ↦ own_before c ps (place_of sender ps) (place sender waiting) (omega arith) l
    ]

neither : (a b : Bool) → (a || b) ≡ false → (a ≡ false) × (b ≡ false)
neither true b e = (e, let z : ◌≡◌ {A = Bool} true false = e in cc)
neither false b e = (refl, e)

-- room for one buffer more
pub room_for
    : (caller : ℕ) (ps : List Place) → no_room_for caller ps ≡ false
    → (place_of caller ps < most_places) × (length (place_at ps (place_of caller ps)).waiting < most_waiting)
unfolding no_room_for
room_for caller ps e =
    let n = length (place_at ps (place_of caller ps)).waiting in
    let (a, b) = neither (leb most_places (place_of caller ps)) (leb most_waiting n) e in
    (leb-false most_places (place_of caller ps) a, leb-false most_waiting n b)

-- whom a turn serves

abbrev pub HasWaiting : List Place → ℕ → Type 0
HasWaiting ps i = 0 < length (place_at ps i).waiting

pub waits-within : (ps : List Place) (i : ℕ) → HasWaiting ps i → i < length ps
unfolding place_at
waits-within [] i h = absurd (omega arith)
waits-within (q ∷ qs) zero h = omega arith
waits-within (q ∷ qs) (suc i) h = let g = waits-within qs i h in omega arith

-- the first of these places at which a buffer waits
record First (ps : List Place) (j : ℕ) : Type 0 where
  waits : HasWaiting ps j
  first : (k : ℕ) → HasWaiting ps k → j ≤ k

first_of : (i : ℕ) (ps : List Place) {n : ℕ} → first_waiting i ps ≡ Some n → (j : ℕ) × (n ≡ i + j) × First ps j
unfolding first_waiting place_at
first_of i [] {n} e = let z : ◌≡◌ {A = ℕ} 0 1 = cc in absurd (omega arith)
first_of i (q ∷ qs) {n} e =
    elim (ℕ_discrete (length q.waiting) 0) [
      | yes z ↦
          let (j, s, f) = first_of (suc i) qs {n = n} (rw (eq-eqb (length q.waiting) 0 z) at e) in
          let least : (k : ℕ) → HasWaiting (q ∷ qs) k → suc j ≤ k =
          λ k. elim k as (λ k. HasWaiting (q ∷ qs) k → suc j ≤ k) [ zero ↦ λ w. absurd (omega arith) | suc m ↦ λ w. let g = f.first m w in omega arith ] in
          (suc j, omega arith, record { waits = f.waits; first = least })
      | no z ↦
          let e₁ : Some i ≡ Some n = rw (ne_eqb (length q.waiting) 0 z) at e in
          let e₂ : n ≡ i = cc in
          (0, omega arith, record { waits = omega arith; first = λ k w. omega arith })
    ]

none_waits : (i : ℕ) (ps : List Place) → first_waiting i ps ≡ None → (k : ℕ) → HasWaiting ps k → ⊥
unfolding first_waiting place_at
none_waits i [] e k w = omega arith
none_waits i (q ∷ qs) e k w =
    elim (ℕ_discrete (length q.waiting) 0) [
      | yes z ↦ go (none_waits (suc i) qs (rw (eq-eqb (length q.waiting) 0 z) at e)) z k w
      | no z ↦ let e₁ : Some i ≡ None = rw (ne_eqb (length q.waiting) 0 z) at e in let o : ◌≡◌ {A = ℕ} 0 1 = cc in omega arith
    ]
  where
    go : ((m : ℕ) → HasWaiting qs m → ⊥) → length q.waiting ≡ 0 → (m : ℕ) → HasWaiting (q ∷ qs) m → ⊥
    go f z zero v = omega arith
    go f z (suc m) v = f m v

-- from `next` on, or round from the start where nobody waits from there on
pub data Way (d : Desk) (i : ℕ) : Type 0 where
  ahead : d.next ≤ i → ((k : ℕ) → HasWaiting d.places k → d.next ≤ k → i ≤ k) → Way d i
  round : ((k : ℕ) → HasWaiting d.places k → k < d.next) → ((k : ℕ) → HasWaiting d.places k → i ≤ k) → Way d i

dropped : (ps : List Place) (n j : ℕ) → place_at (drop n ps) j ≡ place_at ps (n + j)
unfolding place_at
dropped ps n j = get_or-drop n ps j (place 0 [])

-- number k is number k - n of those from n on
from-there : (ps : List Place) (n k : ℕ) → n ≤ k → HasWaiting ps k → HasWaiting (drop n ps) (k - n)
from-there ps n k h w = let z : n + (k - n) ≡ k = omega arith in rw (dropped ps n (k - n), z) w

pub turn_serves : (d : Desk) (i : ℕ) → turn_of d ≡ Some i → HasWaiting d.places i × Way d i
unfolding turn_of
turn_serves d i e = go (first_waiting d.next (drop d.next d.places)) refl e
  where
    there : List Place
    there = drop d.next d.places

    go
        : (t : Option ℕ) → first_waiting d.next there ≡ t → or_else t (first_waiting 0 d.places) ≡ Some i
        → HasWaiting d.places i × Way d i
    go None f g =
        let (j, s, m) = first_of 0 d.places g in
        let z : i ≡ j = omega arith in
        let before : (k : ℕ) → HasWaiting d.places k → k < d.next =
        λ k w. elim (dec_lt k d.next) [
          | yes l ↦ l
          | no l ↦ absurd (none_waits d.next there f (k - d.next) (from-there d.places d.next k (omega arith) w))
        ] in
        rw z (m.waits, round before m.first)
    go (Some n) f g =
        let (j, s, m) = first_of d.next there f in
        let o : i ≡ n = cc in
        let z : i ≡ d.next + j = omega arith in
        let w : HasWaiting d.places (d.next + j) = rw (dropped d.places d.next j) at m.waits in
        let least : (k : ℕ) → HasWaiting d.places k → d.next ≤ k → d.next + j ≤ k =
        λ k v h. let l = m.first (k - d.next) (from-there d.places d.next k h v) in omega arith in
        rw z (w, ahead (omega arith) least)

pub nobody_waits : (d : Desk) → turn_of d ≡ None → (k : ℕ) → HasWaiting d.places k → ⊥
unfolding turn_of
nobody_waits d e k w = go (first_waiting d.next (drop d.next d.places)) e k w
  where
    go : (t : Option ℕ) → or_else t (first_waiting 0 d.places) ≡ None → (k : ℕ) → HasWaiting d.places k → ⊥
    go None g k w = none_waits 0 d.places g k w
    go (Some n) g k w = let o : ◌≡◌ {A = ℕ} 0 1 = cc in omega arith
