-- What is claimed of every desk reached from an empty one; the theorems stand in the files after it.
use Rattle.std.specs.Prelude.{ℕ, ◌<◌, ◌≤◌, ◌≡◌, List, ◌∷◌, ◌++◌, map, length, Some}
use Rattle.history.specs.Below.{Each, Pairs}
use Rattle.desk_spec.specs.Desk.{Place, Desk, most_places, most_waiting, place_at, oldest, turn_of}
use Rattle.desk_order.specs.Ops.{Op, turns, after_all, turns_in}

-- "up to 8 callers, each with at most 16 waiting buffers": no caller has two places
pub record Limits (d : Desk) : Type 0 where
  pub places_fit : length d.places ≤ most_places
  pub waiting-fit : Each (λ p. length p.waiting ≤ most_waiting) d.places
  pub callers_once : Pairs (λ p q. p.caller ≡ q.caller → ⊥) d.places
  pub next_fits : d.next ≤ most_places

abbrev pub callers : Desk → List ℕ
callers d = map (λ (p : Place). p.caller) d.places

-- among these ops, with fewer than n turns before it, one turn serves the caller that buffer
pub record ServedWithin (n caller buffer : ℕ) (ops : List Op) (d : Desk) : Type 0 where
  pub before : List Op
  pub rest : List Op
  pub split : ops ≡ before ++ turns ∷ rest
  pub soon : turns_in before < n
  pub place : ℕ
  pub its_turn : turn_of (after_all before d) ≡ Some place
  pub its_caller : (place_at (after_all before d).places place).caller ≡ caller
  pub its_buffer : oldest (place_at (after_all before d).places place) ≡ buffer
