-- Whatever is done, at most 8 callers have places, each one place, with at most 16 buffers waiting.
use Rattle.std.specs.Prelude.{if◌then◌else◌, ℕ, zero, suc, ◌≤◌, ◌<◌, ◌≡◌, refl, List, [], ◌∷◌, ◌++◌, Bool, true, false, length, drop, Option, Some, None}
use Rattle.std.proofs.Common.{◌∙◌, arith, length-append, length-drop}
use Rattle.std.proofs.Math.Decide.{ℕ_discrete, dec_lt}
use Rattle.history.specs.Below.{Each, Pairs}
use Rattle.history.specs.Sessions.Lists.{each_at, each_mono}
use Rattle.desk_spec.specs.declared.place.Change.TheVariants.{Sent, Served}
use Rattle.desk_spec.specs.Desk.{Place, place, Desk, most_waiting, place_at, with_place, place_of, no_room_for, place_after, next_after, changed, turn_of}
use Rattle.desk_spec.specs.Places.{HasWaiting, each_with, length-with, length-behind, found-at_once, found_later, room_for, waits-within, turn_serves}
use Rattle.desk_order.specs.Ops.{Op, sends, turns, send_to, serve_at, after, after_all, empty_desk}
use Rattle.desk_order.specs.Claims.{Limits}

abbrev OtherCaller : Place → Place → Type 0
OtherCaller p q = p.caller ≡ q.caller → ⊥

once_sent
    : (caller : ℕ) (ps : List Place) (waiting : List ℕ) → Pairs OtherCaller ps
    → Pairs OtherCaller (with_place ps (place_of caller ps) (place caller waiting))
unfolding Pairs Each with_place place_of
once_sent caller [] waiting h = (tt, tt)
once_sent caller (q ∷ qs) waiting h =
    elim (ℕ_discrete q.caller caller) [
      | yes e ↦
          rw (found-at_once caller q qs e)
          (each_mono (OtherCaller q) (OtherCaller (place caller waiting)) qs (λ p a f. a (e ∙ f)) h.0, h.1)
      | no n ↦
          rw (found_later caller q qs n)
          (each_with (OtherCaller q) qs (place_of caller qs) (place caller waiting) h.0 n, once_sent caller qs waiting h.1)
    ]

once_served
    : (ps : List Place) (i : ℕ) (waiting : List ℕ) → i < length ps → Pairs OtherCaller ps
    → Pairs OtherCaller (with_place ps i (place (place_at ps i).caller waiting))
unfolding Pairs with_place place_at
once_served [] i waiting l h = absurd (omega arith)
once_served (q ∷ qs) zero waiting l h = h
once_served (q ∷ qs) (suc i) waiting l h =
    let p = place (place_at qs i).caller waiting in
    (each_with (OtherCaller q) qs i p h.0 (each_at (OtherCaller q) qs (place 0 []) h.0 i (omega arith)), once_served qs i waiting (omega arith) h.1)

pub limits_sent
    : (caller buffer : ℕ) (d : Desk) → no_room_for caller d.places ≡ false → Limits d
    → Limits (changed (Sent (place_of caller d.places) caller buffer) d)
unfolding changed place_after next_after
limits_sent caller buffer d r h =
    let ps = d.places in
    let i = place_of caller ps in
    let waiting = (place_at ps i).waiting in
    let (a, b) = room_for caller ps r in
    let p = place caller (waiting ++ buffer ∷ []) in
    let w : length (waiting ++ buffer ∷ []) ≤ most_waiting = rw (length-append waiting (buffer ∷ [])) (omega arith) in
    let f = h.places_fit in
    record {
      places_fit =
          elim (dec_lt i (length ps)) [
            | yes l ↦ rw (length-with p ps i l) h.places_fit
            | no l ↦ rw (length-behind p ps i (omega arith)) (omega arith)
          ];
      waiting-fit = each_with (λ q. length q.waiting ≤ most_waiting) ps i p h.waiting-fit w;
      callers_once = once_sent caller ps (waiting ++ buffer ∷ []) h.callers_once;
      next_fits = h.next_fits;
    }

pub limits-served : (i : ℕ) (d : Desk) → HasWaiting d.places i → Limits d → Limits (changed (Served i) d)
unfolding changed place_after next_after place_at
limits-served i d w h =
    let ps = d.places in
    let l : i < length ps = waits-within ps i w in
    let q = place_at ps i in
    let waiting = drop 1 q.waiting in
    let p = place_after (Served i) q in
    let f = h.places_fit in
    let m : length q.waiting ≤ most_waiting = each_at (λ r. length r.waiting ≤ most_waiting) ps (place 0 []) h.waiting-fit i l in
    let s : length waiting ≤ most_waiting = rw (length-drop 1 q.waiting) (omega arith) in
    record {
      places_fit = rw (length-with p ps i l) h.places_fit;
      waiting-fit = each_with (λ r. length r.waiting ≤ most_waiting) ps i p h.waiting-fit s;
      callers_once = once_served ps i waiting l h.callers_once;
      next_fits = omega arith;
    }

limits-turn : (d : Desk) (t : Option ℕ) → turn_of d ≡ t → Limits d → Limits (serve_at t d)
unfolding serve_at
limits-turn d None e h = h
limits-turn d (Some i) e h = limits-served i d (turn_serves d i e).0 h

pub limits_kept : (op : Op) (d : Desk) → Limits d → Limits (after op d)
unfolding after send_to
limits_kept (sends caller buffer) d h = go (no_room_for caller d.places) refl
  where
    go
        : (b : Bool) → no_room_for caller d.places ≡ b
        → Limits (if b then d else changed (Sent (place_of caller d.places) caller buffer) d)
    go true e = h
    go false e = limits_sent caller buffer d e h
limits_kept turns d h = limits-turn d (turn_of d) refl h

pub all-limits : (ops : List Op) (d : Desk) → Limits d → Limits (after_all ops d)
unfolding after_all
all-limits [] d h = h
all-limits (op ∷ ops) d h = all-limits ops (after op d) (limits_kept op d h)

pub empty-limits : Limits empty_desk
unfolding Each Pairs
empty-limits = record { places_fit = omega arith; waiting-fit = tt; callers_once = tt; next_fits = omega arith }

pub limits : (ops : List Op) → Limits (after_all ops empty_desk)
limits ops = all-limits ops empty_desk empty-limits
