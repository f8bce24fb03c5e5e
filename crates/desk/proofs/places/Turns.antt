-- Whose place is whose, whose turn it is, and what `send` answers.
use Rattle.std.specs.Prelude.{if◌then◌else◌, MatchOption}
use Rattle.std.proofs.Common.{◌≡◌, ℕ, suc, ◌+◌, ◌<◌, ◌≤◌, Bool, true, false, ◌||◌, ltb, leb, List, [], ◌∷◌, length, drop, refl, ap, ◌∙◌, add-one, arith, drop_of_length-le, drop-cons, ltb-false, le-ltb, lt-ltb, eq-eqb, ne_eqb, le-leb, Option, Some, None}
use borrow.Author.Tests.{lt-leb}
use Rattle.desk_spec.specs.declared.place.Change.TheVariants.{Sent}
use Rattle.desk_spec.specs.Desk.{Place, place, place_at, place_of, no_room_for, changed, first_waiting, or_else, turn_of}
use Rattle.desk_spec.specs.Bytes.{desk_of, place_word, with_desk}
use Rattle.desk_spec.specs.Places.{turn_serves, waits-within}
use Rattle.desk_spec.specs.Outcome.{turn_at, send_outcome}

-- the places from number i on are place i and those after it
places_from : (places : List Place) (i : ℕ) → i < length places → drop i places ≡ place_at places i ∷ drop (i + 1) places
unfolding place_at
places_from places i h = rw add-one (drop-cons places i (place 0 []) h)

-- a caller's place

module _ (caller : ℕ) (places : List Place) (i : ℕ) where
  pub its_place : i < length places → place_word (place_at places i) 0 ≡ caller → place_of caller (drop i places) ≡ 0
  unfolding place_word place_of
  its_place h e = rw (places_from places i h, eq-eqb _ _ e)

  pub other_place
      : i < length places → (place_word (place_at places i) 0 ≡ caller → ⊥)
      → place_of caller (drop i places) ≡ suc (place_of caller (drop (i + 1) places))
  unfolding place_word place_of
  other_place h n = rw (places_from places i h, ne_eqb _ _ n)

  pub no_place : length places ≤ i → place_of caller (drop i places) ≡ 0
  unfolding place_of
  no_place h = rw (drop_of_length-le places h)

-- the first place at which a buffer waits

module _ (places : List Place) (i : ℕ) where
  pub waits_here : i < length places → (place_word (place_at places i) 1 ≡ 0 → ⊥) → Some i ≡ first_waiting i (drop i places)
  unfolding place_word first_waiting
  waits_here h n = rw (places_from places i h, ne_eqb _ _ n)

  pub waits_later : i < length places → place_word (place_at places i) 1 ≡ 0 → first_waiting (i + 1) (drop (i + 1) places) ≡ first_waiting i (drop i places)
  unfolding place_word first_waiting
  waits_later h e = rw (places_from places i h, eq-eqb _ _ e) (ap (λ k. first_waiting k (drop (i + 1) places)) (add-one i))

  pub waits_nowhere : length places ≤ i → None ≡ first_waiting i (drop i places)
  unfolding first_waiting
  waits_nowhere h = rw (drop_of_length-le places h)

not_nobody : {i : ℕ} → None ≡ Some i → ⊥
not_nobody e = let z : ◌≡◌ {A = ℕ} 0 1 = cc in omega arith

-- whose turn it is

pub turn-short : (bytes : List ℕ) → length bytes < 592 → None ≡ turn_at bytes
unfolding turn_at
turn-short bytes h = rw (lt-ltb (length bytes) 592 h)

module _ (bytes : List ℕ) (long : 592 ≤ length bytes) {n : ℕ} (en : n ≡ (desk_of bytes).next) {t : Option ℕ}
    (et : t ≡ first_waiting n (drop n (desk_of bytes).places)) where
  turn_is : or_else t (first_waiting 0 (desk_of bytes).places) ≡ turn_at bytes
  unfolding turn_at turn_of
  turn_is = rw (le-ltb (length bytes) 592 long, et, en)

  -- what was found from `next` on, or round from the start
  pub turn_found
      : {r : Option ℕ} {P : Type 0} → MatchOption t P (λ i. r ≡ Some i) → (P → r ≡ first_waiting 0 (desk_of bytes).places) → r ≡ turn_at bytes
  turn_found {r} {P} m f = go t _ _ turn_is m f
    where
      go : (t u v : Option ℕ) → or_else t u ≡ v → MatchOption t P (λ i. r ≡ Some i) → (P → r ≡ u) → r ≡ v
      go None u v e m f = f m ∙ e
      go (Some i) u v e m f = m ∙ e

-- a turn that serves a place is at a desk that has it
pub turn_inside : (bytes : List ℕ) (i : ℕ) → turn_at bytes ≡ Some i → (592 ≤ length bytes) × (i < length (desk_of bytes).places)
unfolding turn_at
turn_inside bytes i e = go (ltb (length bytes) 592) refl e
  where
    go
        : (b : Bool) → ltb (length bytes) 592 ≡ b → (if b then None else turn_of (desk_of bytes)) ≡ Some i
        → (592 ≤ length bytes) × (i < length (desk_of bytes).places)
    go true b e = absurd (not_nobody e)
    go false b e = (ltb-false (length bytes) 592 b, waits-within (desk_of bytes).places i (turn_serves (desk_of bytes) i e).0)

-- what `send` answers

or_yes : (b : Bool) → (b || true) ≡ true
or_yes true = refl
or_yes false = refl

module _ (caller buffer : ℕ) (bytes : List ℕ) where
  pub sent_nowhere : length bytes < 592 → ◌≡◌ {A = ℕ × ℕ × List ℕ} (8, 0, bytes) (send_outcome caller buffer bytes)
  unfolding send_outcome
  sent_nowhere h = rw (lt-ltb (length bytes) 592 h)

  module _ (long : 592 ≤ length bytes) {n : ℕ} (en : n ≡ place_of caller (desk_of bytes).places) where
    pub ninth_caller : 8 ≤ n → ◌≡◌ {A = ℕ × ℕ × List ℕ} (8, 0, bytes) (send_outcome caller buffer bytes)
    unfolding send_outcome no_room_for
    ninth_caller h = rw (le-ltb (length bytes) 592 long, ← en, le-leb 8 n h)

    module _ {waiting : ℕ} (ew : waiting ≡ place_word (place_at (desk_of bytes).places n) 1) where
      pub seventeenth_buffer : 16 ≤ waiting → ◌≡◌ {A = ℕ × ℕ × List ℕ} (8, 0, bytes) (send_outcome caller buffer bytes)
      unfolding send_outcome no_room_for place_word
      seventeenth_buffer h = rw (le-ltb (length bytes) 592 long, ← en, ← ew, le-leb 16 waiting h, or_yes (leb 8 n))

      pub sent_there
          : n < 8 → waiting < 16 → {left : List ℕ} → left ≡ with_desk (changed (Sent n caller buffer) (desk_of bytes)) bytes
          → ◌≡◌ {A = ℕ × ℕ × List ℕ} (0, 0, left) (send_outcome caller buffer bytes)
      unfolding send_outcome no_room_for place_word
      sent_there few h e = rw (le-ltb (length bytes) 592 long, ← en, lt-leb 8 n few, ← ew, lt-leb 16 waiting h, e)
