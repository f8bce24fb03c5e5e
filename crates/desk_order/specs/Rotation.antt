-- "a waiting one is served within 8 turns": whatever is sent in between.
use Rattle.std.specs.Prelude.{if◌then◌else◌, ℕ, suc, ◌+◌, ◌-◌, ◌*◌, ◌%◌, ◌≤◌, ◌<◌, ◌≡◌, Bool, true, false, length, drop, replicate, eqb, Option, Some, None}
use Rattle.std.proofs.Math.Path.{refl, ap}
use Rattle.std.proofs.Common.{sym, ◌∙◌, length-append, eq-eqb, ne_eqb}
use mathlib.Core.List.{List, [], ◌∷◌, ◌++◌, append_assoc, append-nil}
use native.Mathlib.Omega.{arith}
use Rattle.std.proofs.Math.Decide.{ℕ_discrete, dec_lt}
use Rattle.std.proofs.Math.ListN.{get_or}
use Rattle.desk_spec.specs.declared.place.Change.TheVariants.{Sent, Served}
use Rattle.desk_spec.specs.Desk.{Place, place, Desk, most_places, place_at, with_place, place_of, no_room_for, oldest, place_after, next_after, changed, first_waiting, turn_of}
use Rattle.desk_spec.specs.Places.{HasWaiting, Way, ahead, round, own_caller, own_kept, own_stays, waits-within, turn_serves, nobody_waits}
use Rattle.desk_order.specs.Ops.{Op, sends, turns, send_to, serve_at, after, after_all, empty_desk, queue_of, served_at, served, all_served, turns_in}
use Rattle.desk_order.specs.Claims.{Limits, ServedWithin}
use Rattle.desk_order.specs.Limits.{limits_kept}
use Rattle.desk_order.specs.Queues.{queue_sent, own-place, queue_served}

-- how many places lie on the way from `next` to place i, round all 8
abbrev on_the_way : (next i : ℕ) → ℕ
on_the_way next i = (i + most_places - next) % most_places

abbrev way_to : ℕ → Desk → ℕ
way_to caller d = on_the_way d.next (place_of caller d.places)

-- a turn that serves another place goes on from a place nearer to i
nearer
    : (d : Desk) (i k : ℕ) → Limits d → HasWaiting d.places i → HasWaiting d.places k → Way d k → (k ≡ i → ⊥)
    → on_the_way (suc k) i < on_the_way d.next i
nearer d i k h w v way n =
    let a = waits-within d.places i w in
    let b = waits-within d.places k v in
    let f = h.places_fit in
    let g = h.next_fits in
    elim way [
      | ahead l first ↦
          elim (dec_lt i d.next) [ yes m ↦ omega arith | no m ↦ let o = first i w (omega arith) in omega arith ]
      | round before first ↦ let m = before i w in let o = first i w in omega arith
    ]

-- what a turn is to a caller that waits: its own, or one that comes nearer to it
data TurnFor (caller : ℕ) (d : Desk) : Type 0 where
  its_own
      : turn_of d ≡ Some (place_of caller d.places) → served caller turns d ≡ get_or (queue_of caller d) 0 0 ∷ []
      → queue_of caller (after turns d) ≡ drop 1 (queue_of caller d) → way_to caller (after turns d) < most_places → TurnFor caller d
  anothers
      : served caller turns d ≡ [] → queue_of caller (after turns d) ≡ queue_of caller d → way_to caller (after turns d) < way_to caller d
      → TurnFor caller d

module _ (caller : ℕ) (d : Desk) (h : Limits d) (w : 0 < length (queue_of caller d)) where
  abbrev own_place : ℕ
  own_place = place_of caller d.places

  waits_there : HasWaiting d.places own_place
  unfolding queue_of
  waits_there = w

  abbrev left_at : ℕ → Place
  left_at k = place (place_at d.places k).caller (drop 1 (place_at d.places k).waiting)

  stays_there : (k : ℕ) → HasWaiting d.places k → place_of caller (changed (Served k) d).places ≡ own_place
  unfolding changed place_after
  stays_there k v = own_kept caller d.places k (left_at k) (waits-within d.places k v) refl

  gives_it : served_at caller (Some own_place) d ≡ get_or (queue_of caller d) 0 0 ∷ []
  unfolding served_at queue_of oldest
  gives_it =
      let c = own_caller caller d.places (waits-within d.places own_place waits_there) in
      rw (eq-eqb (place_at d.places own_place).caller caller c)

  gives_none : (k : ℕ) → HasWaiting d.places k → (k ≡ own_place → ⊥) → served_at caller (Some k) d ≡ []
  unfolding served_at
  gives_none k v n =
      let c : (place_at d.places k).caller ≡ caller → ⊥ =
      λ f. n (sym (own-place caller d.places k (waits-within d.places k v) h.callers_once f)) in
      rw (ne_eqb (place_at d.places k).caller caller c)

  turn_for : (t : Option ℕ) → turn_of d ≡ t → TurnFor caller d
  unfolding after serve_at changed next_after served
  turn_for None e = absurd (nobody_waits d e own_place waits_there)
  turn_for (Some k) e =
      let (v, way) = turn_serves d k e in
      let s : after turns d ≡ changed (Served k) d = ap (λ t. serve_at t d) e in
      let g : served caller turns d ≡ served_at caller (Some k) d = ap (λ t. served_at caller t d) e in
      let q : queue_of caller d ≡ served_at caller (Some k) d ++ queue_of caller (after turns d) =
      queue_served caller k d h v ∙ ap (λ x. served_at caller (Some k) d ++ queue_of caller x) (sym s) in
      elim (ℕ_discrete k own_place) [
        | yes z ↦
            let o : served_at caller (Some k) d ≡ get_or (queue_of caller d) 0 0 ∷ [] = ap (λ i. served_at caller (Some i) d) z ∙ gives_it in
            let m : way_to caller (changed (Served k) d) < most_places = omega arith in
            its_own (e ∙ ap Some z) (g ∙ o) (sym (ap (drop 1) (q ∙ ap (λ l. l ++ queue_of caller (after turns d)) o))) (rw s m)
        | no n ↦
            let o = gives_none k v n in
            let m : on_the_way (suc k) own_place < way_to caller d = nearer d own_place k h waits_there v way n in
            let l : way_to caller (changed (Served k) d) < way_to caller d = rw (stays_there k v) m in
            anothers (g ∙ o) (sym (q ∙ ap (λ x. x ++ queue_of caller (after turns d)) o)) (rw s l)
      ]

way_sent
    : (caller sender buffer : ℕ) (d : Desk) → 0 < length (queue_of caller d)
    → way_to caller (changed (Sent (place_of sender d.places) sender buffer) d) ≡ way_to caller d
unfolding queue_of changed place_after next_after
way_sent caller sender buffer d w =
    let ps = d.places in
    let l : place_of caller ps < length ps = waits-within ps (place_of caller ps) w in
    ap (on_the_way d.next) (own_stays caller ps sender ((place_at ps (place_of sender ps)).waiting ++ buffer ∷ []) l)

-- a sending changes neither the way nor what waits, but at the queue's end
sending_for
    : (caller sender buffer : ℕ) (d : Desk) → 0 < length (queue_of caller d)
    → (more : List ℕ) × (queue_of caller (after (sends sender buffer) d) ≡ queue_of caller d ++ more)
    × (way_to caller (after (sends sender buffer) d) ≡ way_to caller d)
unfolding after send_to
sending_for caller sender buffer d w = go (no_room_for sender d.places)
  where
    go
        : (b : Bool)
        → (more : List ℕ) × (queue_of caller (if b then d else changed (Sent (place_of sender d.places) sender buffer) d) ≡ queue_of caller d ++ more)
        × (way_to caller (if b then d else changed (Sent (place_of sender d.places) sender buffer) d) ≡ way_to caller d)
    go true = ([], sym (append-nil (queue_of caller d)), refl)
    go false =
        (if eqb sender caller then buffer ∷ [] else [], queue_sent caller sender buffer d, way_sent caller sender buffer d w)

waits_some
    : (caller : ℕ) (d : Desk) (earlier : List ℕ) (buffer : ℕ) (later : List ℕ) → queue_of caller d ≡ earlier ++ buffer ∷ later
    → 0 < length (queue_of caller d)
waits_some caller d earlier buffer later q = rw (q, length-append earlier (buffer ∷ later)) (omega arith)

-- and before that turn the caller was served what stood ahead, and no more
abbrev InTurn : (m caller : ℕ) → List ℕ → ℕ → List Op → Desk → Type 0
InTurn m caller earlier buffer ops d = (r : ServedWithin m caller buffer ops d) × (all_served caller r.before d ≡ earlier)

served_now
    : (m caller buffer : ℕ) (later : List ℕ) (ops : List Op) (d : Desk) → turn_of d ≡ Some (place_of caller d.places)
    → queue_of caller d ≡ buffer ∷ later → 0 < m → InTurn m caller [] buffer (turns ∷ ops) d
unfolding turns_in after_all queue_of oldest all_served
served_now m caller buffer later ops d e q l =
    let i = place_of caller d.places in
    let w : HasWaiting d.places i = rw q (omega arith) in (
      record {
        before = [];
        rest = ops;
        split = refl;
        soon = l;
        place = i;
        its_turn = e;
        its_caller = own_caller caller d.places (waits-within d.places i w);
        its_buffer = ap (λ l. get_or l 0 0) q;
      },
      refl,
    )

served-after
    : (op : Op) (m n caller : ℕ) (earlier : List ℕ) (buffer : ℕ) (ops : List Op) (d : Desk)
    → ((before : List Op) → turns_in before < n → turns_in (op ∷ before) < m) → InTurn n caller earlier buffer ops (after op d)
    → InTurn m caller (served caller op d ++ earlier) buffer (op ∷ ops) d
unfolding after_all all_served
served-after op m n caller earlier buffer ops d count (r, e) = (
  record {
    before = op ∷ r.before;
    rest = r.rest;
    split = ap (λ l. op ∷ l) r.split;
    soon = count r.before r.soon;
    place = r.place;
    its_turn = r.its_turn;
    its_caller = r.its_caller;
    its_buffer = r.its_buffer;
  },
  ap (λ l. served caller op d ++ l) e,
)

after_sending
    : (sender sent m caller : ℕ) (earlier : List ℕ) (buffer : ℕ) (ops : List Op) (d : Desk)
    → InTurn m caller earlier buffer ops (after (sends sender sent) d) → InTurn m caller earlier buffer (sends sender sent ∷ ops) d
unfolding served turns_in
after_sending sender sent m caller earlier buffer ops d = served-after (sends sender sent) m m caller earlier buffer ops d (λ before l. l)

after_turn_lem
    : (m caller : ℕ) (given earlier : List ℕ) (buffer : ℕ) (ops : List Op) (d : Desk) → served caller turns d ≡ given
    → InTurn (m - 1) caller earlier buffer ops (after turns d) → InTurn m caller (given ++ earlier) buffer (turns ∷ ops) d
unfolding turns_in
after_turn_lem m caller given earlier buffer ops d e r =
    rw (← e) (served-after turns m (m - 1) caller earlier buffer ops d (λ before l. omega arith) r)

-- the way to it, and 8 turns for each buffer ahead of it
rotates
    : (ops : List Op) (d : Desk) → Limits d → (m caller : ℕ) (earlier : List ℕ) (buffer : ℕ) (later : List ℕ)
    → queue_of caller d ≡ earlier ++ buffer ∷ later → way_to caller d + most_places * length earlier < m → m ≤ turns_in ops
    → InTurn m caller earlier buffer ops d
unfolding turns_in
rotates [] d h m caller earlier buffer later q l t = absurd (omega arith)
rotates (sends sender sent ∷ ops) d h m caller earlier buffer later q l t =
    let (more, e, s) = sending_for caller sender sent d (waits_some caller d earlier buffer later q) in
    let d₁ = after (sends sender sent) d in
    let q₁ : queue_of caller d₁ ≡ earlier ++ buffer ∷ (later ++ more) = e ∙ ap (λ l. l ++ more) q ∙ append_assoc earlier (buffer ∷ later) more in
    after_sending sender sent m caller earlier buffer ops d
    (rotates ops d₁ (limits_kept (sends sender sent) d h) m caller earlier buffer (later ++ more) q₁ (rw s l) t)
rotates (turns ∷ ops) d h m caller [] buffer later q l t =
    let next = rotates ops (after turns d) (limits_kept turns d h) (m - 1) caller in
    elim (turn_for caller d h (waits_some caller d [] buffer later q) (turn_of d) refl) [
      | its_own s g e n ↦ served_now m caller buffer later ops d s q (omega arith)
      | anothers g e n ↦ after_turn_lem m caller [] [] buffer ops d g (next [] buffer later (e ∙ q) (omega arith) (omega arith))
    ]
rotates (turns ∷ ops) d h m caller (x ∷ xs) buffer later q l t =
    let next = rotates ops (after turns d) (limits_kept turns d h) (m - 1) caller in
    elim (turn_for caller d h (waits_some caller d (x ∷ xs) buffer later q) (turn_of d) refl) [
      | its_own s g e n ↦
          let x₁ : served caller turns d ≡ x ∷ [] = g ∙ ap (λ k. get_or k 0 0 ∷ []) q in
          after_turn_lem m caller (x ∷ []) xs buffer ops d x₁ (next xs buffer later (e ∙ ap (drop 1) q) (omega arith) (omega arith))
      | anothers g e n ↦ after_turn_lem m caller [] (x ∷ xs) buffer ops d g (next (x ∷ xs) buffer later (e ∙ q) (omega arith) (omega arith))
    ]

-- one behind others of its caller: 8 turns for each, and those were served before it
pub within_8_each
    : (ops : List Op) (d : Desk) → Limits d → (caller : ℕ) (earlier : List ℕ) (buffer : ℕ) (later : List ℕ)
    → queue_of caller d ≡ earlier ++ buffer ∷ later → 8 * suc (length earlier) ≤ turns_in ops
    → (r : ServedWithin (8 * suc (length earlier)) caller buffer ops d) × (all_served caller r.before d ≡ earlier)
within_8_each ops d h caller earlier buffer later q t =
    rotates ops d h (8 * suc (length earlier)) caller earlier buffer later q (omega arith) t

-- T4: from any moment at which a buffer is the oldest of its caller's
pub within_8
    : (ops : List Op) (d : Desk) → Limits d → (caller buffer : ℕ) (later : List ℕ) → queue_of caller d ≡ buffer ∷ later → 8 ≤ turns_in ops
    → ServedWithin 8 caller buffer ops d
within_8 ops d h caller buffer later q t = (within_8_each ops d h caller [] buffer later q t).0

-- no bound below 8 holds: eight callers wait, and the first has just been served
unfoldable pub crowd : List Op
crowd = sends 0 10 ∷ sends 1 11 ∷ sends 2 12 ∷ sends 3 13 ∷ sends 4 14 ∷ sends 5 15 ∷ sends 6 16 ∷ sends 7 17 ∷ sends 0 100 ∷ turns ∷ []

unfoldable pub crowded : Desk
crowded = after_all crowd empty_desk

pub sharp
    : (queue_of 0 crowded ≡ 100 ∷ []) × (all_served 0 (replicate 7 turns) crowded ≡ []) × (all_served 0 (replicate 8 turns) crowded ≡ 100 ∷ [])
unfolding crowd crowded after_all after send_to serve_at changed place_after next_after with_place place_at place_of no_room_for turn_of first_waiting queue_of all_served served served_at oldest
sharp = (refl, refl, refl)
