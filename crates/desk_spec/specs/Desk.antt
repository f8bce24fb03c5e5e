-- Document 02, Ask 3: "a dispatcher for up to 8 callers, each with at most 16 waiting buffers, one served a turn, oldest first, callers in
-- rotation by first sending. A caller keeps its place."
use Rattle.std.specs.Prelude.{if◌then◌else◌, ℕ, zero, suc, List, [], ◌∷◌, ◌++◌, Bool, ◌||◌, length, get_or, drop, eqb, leb, Option, Some, None}
use Rattle.desk_spec.specs.declared.place.Change.{Change}
use Rattle.desk_spec.specs.declared.place.Change.TheVariants.{Sent, Served}

-- a caller, and its waiting buffers by their addresses, the oldest first
pub record Place : Type 0 where
  pub caller : ℕ
  pub waiting : List ℕ

abbrev pub place : ℕ → List ℕ → Place
place caller waiting = record { caller = caller; waiting = waiting }

-- the places by first sending, and the number of the one that the next turn looks at first
pub record Desk : Type 0 where
  pub places : List Place
  pub next : ℕ

abbrev pub desk : List Place → ℕ → Desk
desk places next = record { places = places; next = next }

-- "up to 8 callers", "at most 16 waiting buffers"
abbrev pub most_places : ℕ
most_places = 8

abbrev pub most_waiting : ℕ
most_waiting = 16

-- place number i; behind the last one nobody waits
unfoldable pub place_at : List Place → ℕ → Place
place_at places i = get_or places i (place 0 [])

-- the places with p at number i; the number behind the last one is a new place
unfoldable pub with_place : List Place → ℕ → Place → List Place
with_place [] i p = p ∷ []
with_place (q ∷ qs) zero p = p ∷ qs
with_place (q ∷ qs) (suc i) p = q ∷ with_place qs i p

-- the number of the caller's place; of one that has none, the number behind the last
unfoldable pub place_of : ℕ → List Place → ℕ
place_of caller [] = 0
place_of caller (q ∷ qs) = if eqb q.caller caller then 0 else suc (place_of caller qs)

-- "It refuses, when sent, a ninth caller or a seventeenth buffer"
unfoldable pub no_room_for : ℕ → List Place → Bool
no_room_for caller places =
    leb most_places (place_of caller places) || leb most_waiting (length (place_at places (place_of caller places)).waiting)

unfoldable pub oldest : Place → ℕ
oldest p = get_or p.waiting 0 0

-- the place that changes
abbrev pub changed_place : Change → ℕ
changed_place (Sent i caller buffer) = i
changed_place (Served i) = i

-- a buffer goes to the end of its caller's queue, or the oldest leaves it
unfoldable pub place_after : Change → Place → Place
place_after (Sent i caller buffer) p = place caller (p.waiting ++ buffer ∷ [])
place_after (Served i) p = place p.caller (drop 1 p.waiting)

-- the turn after a place was served begins behind it
unfoldable pub next_after : Change → ℕ → ℕ
next_after (Sent i caller buffer) next = next
next_after (Served i) next = suc i

unfoldable pub changed : Change → Desk → Desk
changed c d =
    desk (with_place d.places (changed_place c) (place_after c (place_at d.places (changed_place c)))) (next_after c d.next)

-- the first of these places at which a buffer waits, where their numbers begin at i: "Callers with nothing waiting are skipped"
unfoldable pub first_waiting : ℕ → List Place → Option ℕ
first_waiting i [] = None
first_waiting i (q ∷ qs) = if eqb (length q.waiting) 0 then first_waiting (suc i) qs else Some i

abbrev pub or_else : Option ℕ → Option ℕ → Option ℕ
or_else None t = t
or_else (Some i) t = Some i

-- whom a turn serves: looked for from `next` on, then round from the start
unfoldable pub turn_of : Desk → Option ℕ
turn_of d = or_else (first_waiting d.next (drop d.next d.places)) (first_waiting 0 d.places)
