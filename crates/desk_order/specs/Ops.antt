-- What is done at a desk, one after another: sendings, and turns free of 3 and 4; and what a caller sees of it.
use Rattle.std.specs.Prelude.{if◌then◌else◌, ℕ, suc, List, [], ◌∷◌, ◌++◌, not, ◌&&◌, eqb, Option, Some, None}
use Rattle.desk_spec.specs.declared.place.Change.TheVariants.{Sent, Served}
use Rattle.desk_spec.specs.Desk.{Desk, desk, place_at, place_of, oldest, no_room_for, changed, turn_of}

pub data Op : Type 0 where
  sends : (caller buffer : ℕ) → Op
  turns : Op

-- a refused sending leaves the desk
unfoldable pub send_to : (caller buffer : ℕ) → Desk → Desk
send_to caller buffer d =
    if no_room_for caller d.places then d else changed (Sent (place_of caller d.places) caller buffer) d

unfoldable pub serve_at : Option ℕ → Desk → Desk
serve_at None d = d
serve_at (Some i) d = changed (Served i) d

unfoldable pub after : Op → Desk → Desk
after (sends caller buffer) d = send_to caller buffer d
after turns d = serve_at (turn_of d) d

unfoldable pub after_all : List Op → Desk → Desk
after_all [] d = d
after_all (op ∷ ops) d = after_all ops (after op d)

-- "from an empty dispatcher"
abbrev pub empty_desk : Desk
empty_desk = desk [] 0

-- the buffers of a caller that wait
unfoldable pub queue_of : ℕ → Desk → List ℕ
queue_of caller d = (place_at d.places (place_of caller d.places)).waiting

-- what the desk accepts of a caller
unfoldable pub accepted : ℕ → Op → Desk → List ℕ
accepted c (sends caller buffer) d = if eqb caller c && not (no_room_for caller d.places) then buffer ∷ [] else []
accepted c turns d = []

-- what is served to a caller
unfoldable pub served_at : ℕ → Option ℕ → Desk → List ℕ
served_at c None d = []
served_at c (Some i) d = if eqb (place_at d.places i).caller c then oldest (place_at d.places i) ∷ [] else []

unfoldable pub served : ℕ → Op → Desk → List ℕ
served c (sends caller buffer) d = []
served c turns d = served_at c (turn_of d) d

-- both, in order, over all that is done
unfoldable pub all_accepted : ℕ → List Op → Desk → List ℕ
all_accepted c [] d = []
all_accepted c (op ∷ ops) d = accepted c op d ++ all_accepted c ops (after op d)

unfoldable pub all_served : ℕ → List Op → Desk → List ℕ
all_served c [] d = []
all_served c (op ∷ ops) d = served c op d ++ all_served c ops (after op d)

unfoldable pub turns_in : List Op → ℕ
turns_in [] = 0
turns_in (sends caller buffer ∷ ops) = turns_in ops
turns_in (turns ∷ ops) = suc (turns_in ops)
