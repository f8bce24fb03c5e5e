-- A caller is served what it sent, in order, none lost and none twice; and it keeps its place.
use Rattle.std.specs.Prelude.{if◌then◌else◌, ℕ, zero, suc, ◌<◌, ◌≡◌, refl, List, [], ◌∷◌, ◌++◌, map, Bool, true, false, not, ◌&&◌, length, get_or, drop, eqb, Option, Some, None}
use Rattle.std.proofs.Common.{sym, ◌∙◌, append_assoc, append-nil, arith, eqb-true}
use Rattle.std.proofs.Math.Path.{ap}
use Rattle.std.proofs.Math.Decide.{ℕ_discrete}
use Rattle.std.proofs.lemmas.Bool.{eqb-false}
use Rattle.history.specs.Below.{Pairs}
use Rattle.history.specs.Sessions.Lists.{each_at}
use Rattle.desk_spec.specs.declared.place.Change.TheVariants.{Sent, Served}
use Rattle.desk_spec.specs.Desk.{Place, place, Desk, place_at, with_place, place_of, no_room_for, oldest, place_after, changed, turn_of}
use Rattle.desk_spec.specs.Places.{HasWaiting, at-changed, at_other, found-at_once, found_later, found_within, own_caller, own_kept, own_sent, waits-within, turn_serves}
use Rattle.desk_order.specs.Ops.{Op, sends, turns, send_to, serve_at, after, after_all, empty_desk, queue_of, accepted, served_at, served, all_accepted, all_served}
use Rattle.desk_order.specs.Claims.{Limits, callers}
use Rattle.desk_order.specs.Limits.{limits_kept, empty-limits}

abbrev waiting_of : ℕ → List Place → List ℕ
waiting_of c ps = (place_at ps (place_of c ps)).waiting

module _ (c : ℕ) (q : Place) (qs : List Place) where
  waiting-at_once : q.caller ≡ c → waiting_of c (q ∷ qs) ≡ q.waiting
  unfolding place_at
  waiting-at_once e = ap (λ k. (place_at (q ∷ qs) k).waiting) (found-at_once c q qs e)

  waiting_later : (q.caller ≡ c → ⊥) → waiting_of c (q ∷ qs) ≡ waiting_of c qs
  unfolding place_at
  waiting_later n = ap (λ k. (place_at (q ∷ qs) k).waiting) (found_later c q qs n)

-- a sending changes its caller's queue and no other

own_queue : (c : ℕ) (ps : List Place) (waiting : List ℕ) → waiting_of c (with_place ps (place_of c ps) (place c waiting)) ≡ waiting
own_queue c ps waiting =
    ap (λ k. (place_at (with_place ps (place_of c ps) (place c waiting)) k).waiting) (own_sent c ps waiting)
    ∙ ap (λ p. p.waiting) (at-changed (place c waiting) ps (place_of c ps) (found_within c ps))

other_queue
    : (c sender : ℕ) (ps : List Place) (waiting : List ℕ) → (sender ≡ c → ⊥)
    → waiting_of c (with_place ps (place_of sender ps) (place sender waiting)) ≡ waiting_of c ps
unfolding with_place
other_queue c sender [] waiting n = waiting_later c (place sender waiting) [] n
other_queue c sender (q ∷ qs) waiting n =
    let p = place sender waiting in
    let rest = with_place qs (place_of sender qs) p in
    elim (ℕ_discrete q.caller sender) [
      | yes e ↦
          ap (λ i. waiting_of c (with_place (q ∷ qs) i p)) (found-at_once sender q qs e)
          ∙ waiting_later c p qs n
          ∙ sym (waiting_later c q qs (λ f. n (sym e ∙ f)))
      | no m ↦
          ap (λ i. waiting_of c (with_place (q ∷ qs) i p)) (found_later sender q qs m)
          ∙ elim (ℕ_discrete q.caller c) [
            | yes f ↦ waiting-at_once c q rest f ∙ sym (waiting-at_once c q qs f)
            | no f ↦ waiting_later c q rest f ∙ other_queue c sender qs waiting n ∙ sym (waiting_later c q qs f)
          ]
    ]

pub queue_sent
    : (c sender buffer : ℕ) (d : Desk)
    → queue_of c (changed (Sent (place_of sender d.places) sender buffer) d) ≡ queue_of c d ++ (if eqb sender c then buffer ∷ [] else [])
unfolding queue_of changed place_after
queue_sent c sender buffer d = go (eqb sender c) refl
  where
    ps : List Place
    ps = d.places

    more : List ℕ
    more = waiting_of sender ps ++ buffer ∷ []

    go
        : (b : Bool) → eqb sender c ≡ b
        → waiting_of c (with_place ps (place_of sender ps) (place sender more)) ≡ waiting_of c ps ++ (if b then buffer ∷ [] else [])
    go true e = let z : sender ≡ c = eqb-true sender c e in rw z (own_queue c ps (waiting_of c ps ++ buffer ∷ []))
    go false e = other_queue c sender ps more (eqb-false sender c e) ∙ sym (append-nil (waiting_of c ps))

-- a turn takes the oldest from the queue of the caller that it serves

pub own-place
    : (c : ℕ) (ps : List Place) (i : ℕ) → i < length ps → Pairs (λ p q. p.caller ≡ q.caller → ⊥) ps → (place_at ps i).caller ≡ c → place_of c ps ≡ i
unfolding Pairs place_at
own-place c [] i l h e = absurd (omega arith)
own-place c (q ∷ qs) zero l h e = found-at_once c q qs e
own-place c (q ∷ qs) (suc i) l h e =
    let a = each_at (λ p. q.caller ≡ p.caller → ⊥) qs (place 0 []) h.0 i (omega arith) in
    found_later c q qs (λ f. a (f ∙ sym e)) ∙ ap suc (own-place c qs i (omega arith) h.1 e)

first-and-rest : (l : List ℕ) → 0 < length l → l ≡ get_or l 0 0 ∷ drop 1 l
first-and-rest [] h = absurd (omega arith)
first-and-rest (x ∷ xs) h = refl

pub queue_served
    : (c i : ℕ) (d : Desk) → Limits d → HasWaiting d.places i → queue_of c d ≡ served_at c (Some i) d ++ queue_of c (changed (Served i) d)
unfolding queue_of changed place_after served_at oldest
queue_served c i d h w = go (eqb q.caller c) refl
  where
    ps : List Place
    ps = d.places

    l : i < length ps
    l = waits-within ps i w

    q : Place
    q = place_at ps i

    left : Place
    left = place q.caller (drop 1 q.waiting)

    kept : place_of c (with_place ps i left) ≡ place_of c ps
    kept = own_kept c ps i left l refl

    go
        : (b : Bool) → eqb q.caller c ≡ b
        → waiting_of c ps ≡ (if b then get_or q.waiting 0 0 ∷ [] else []) ++ waiting_of c (with_place ps i left)
    go true e =
        let o : place_of c ps ≡ i = own-place c ps i l h.callers_once (eqb-true q.caller c e) in
        ap (λ k. (place_at ps k).waiting) o
        ∙ first-and-rest q.waiting w
        ∙ ap (λ p. get_or q.waiting 0 0 ∷ p.waiting) (sym (at-changed left ps i (omega (arith, l))))
        ∙ ap (λ k. get_or q.waiting 0 0 ∷ (place_at (with_place ps i left) k).waiting) (sym (kept ∙ o))
    go false e =
        let n : place_of c ps ≡ i → ⊥ =
        λ o. eqb-false q.caller c e (ap (λ k. (place_at ps k).caller) (sym o) ∙ own_caller c ps (rw o l)) in
        ap (λ p. p.waiting) (sym (at_other left ps i (place_of c ps) (omega (arith, l)) n))
        ∙ ap (λ k. (place_at (with_place ps i left) k).waiting) (sym kept)

turn_order : (c : ℕ) (d : Desk) (t : Option ℕ) → turn_of d ≡ t → Limits d → queue_of c d ++ [] ≡ served_at c t d ++ queue_of c (serve_at t d)
unfolding served_at serve_at
turn_order c d None e h = append-nil (queue_of c d)
turn_order c d (Some i) e h = append-nil (queue_of c d) ∙ queue_served c i d h (turn_serves d i e).0

step_order : (c : ℕ) (op : Op) (d : Desk) → Limits d → queue_of c d ++ accepted c op d ≡ served c op d ++ queue_of c (after op d)
unfolding accepted served after send_to
step_order c (sends sender buffer) d h = go (no_room_for sender d.places) (eqb sender c) (queue_sent c sender buffer d)
  where
    go
        : (r b : Bool)
        → queue_of c (changed (Sent (place_of sender d.places) sender buffer) d) ≡ queue_of c d ++ (if b then buffer ∷ [] else [])
        → queue_of c d ++ (if b && not r then buffer ∷ [] else [])
        ≡ queue_of c (if r then d else changed (Sent (place_of sender d.places) sender buffer) d)
    go true true e = append-nil (queue_of c d)
    go true false e = append-nil (queue_of c d)
    go false true e = sym e
    go false false e = sym e
step_order c turns d h = turn_order c d (turn_of d) refl h

pub queue_order
    : (c : ℕ) (ops : List Op) (d : Desk) → Limits d → queue_of c d ++ all_accepted c ops d ≡ all_served c ops d ++ queue_of c (after_all ops d)
unfolding all_accepted all_served after_all
queue_order c [] d h = append-nil (queue_of c d)
queue_order c (op ∷ ops) d h =
    sym (append_assoc (queue_of c d) (accepted c op d) (all_accepted c ops (after op d)))
    ∙ ap (λ l. l ++ all_accepted c ops (after op d)) (step_order c op d h)
    ∙ append_assoc (served c op d) (queue_of c (after op d)) (all_accepted c ops (after op d))
    ∙ ap (λ l. served c op d ++ l) (queue_order c ops (after op d) (limits_kept op d h))
    ∙ sym (append_assoc (served c op d) (all_served c ops (after op d)) (queue_of c (after_all ops (after op d))))

-- "oldest first", from an empty desk
pub served_in_order : (c : ℕ) (ops : List Op) → all_accepted c ops empty_desk ≡ all_served c ops empty_desk ++ queue_of c (after_all ops empty_desk)
unfolding queue_of place_at
served_in_order c ops = queue_order c ops empty_desk empty-limits

-- "A caller keeps its place": newcomers come behind

abbrev callers_in : List Place → List ℕ
callers_in ps = map (λ (p : Place). p.caller) ps

callers_sent
    : (sender : ℕ) (ps : List Place) (waiting : List ℕ)
    → (more : List ℕ) × (callers_in (with_place ps (place_of sender ps) (place sender waiting)) ≡ callers_in ps ++ more)
unfolding with_place place_of
callers_sent sender [] waiting = (sender ∷ [], refl)
callers_sent sender (q ∷ qs) waiting =
    elim (ℕ_discrete q.caller sender) [
      | yes e ↦ ([], rw (found-at_once sender q qs e) (ap (λ c. c ∷ callers_in qs) (sym e) ∙ sym (append-nil _)))
      | no n ↦
          let (more, s) = callers_sent sender qs waiting in
          (more, rw (found_later sender q qs n) (ap (λ l. q.caller ∷ l) s))
    ]

callers-served
    : (ps : List Place) (i : ℕ) (waiting : List ℕ) → i < length ps
    → callers_in (with_place ps i (place (place_at ps i).caller waiting)) ≡ callers_in ps
unfolding with_place place_at
callers-served [] i waiting l = absurd (omega arith)
callers-served (q ∷ qs) zero waiting l = refl
callers-served (q ∷ qs) (suc i) waiting l = ap (λ cs. q.caller ∷ cs) (callers-served qs i waiting (omega arith))

abbrev Behind : Desk → Desk → Type 0
Behind d later = (more : List ℕ) × (callers later ≡ callers d ++ more)

behind_none : (d : Desk) → Behind d d
behind_none d = ([], sym (append-nil (callers d)))

turn-behind : (d : Desk) (t : Option ℕ) → turn_of d ≡ t → Behind d (serve_at t d)
unfolding serve_at changed place_after
turn-behind d None e = behind_none d
turn-behind d (Some i) e =
    let l = waits-within d.places i (turn_serves d i e).0 in
    ([], callers-served d.places i (drop 1 (place_at d.places i).waiting) l ∙ sym (append-nil (callers d)))

step-behind : (op : Op) (d : Desk) → Behind d (after op d)
unfolding after send_to changed place_after
step-behind (sends sender buffer) d = go (no_room_for sender d.places)
  where
    go : (b : Bool) → Behind d (if b then d else changed (Sent (place_of sender d.places) sender buffer) d)
    go true = behind_none d
    go false = callers_sent sender d.places (waiting_of sender d.places ++ buffer ∷ [])
step-behind turns d = turn-behind d (turn_of d) refl

pub place_kept : (ops : List Op) (d : Desk) → (more : List ℕ) × (callers (after_all ops d) ≡ callers d ++ more)
unfolding after_all
place_kept [] d = behind_none d
place_kept (op ∷ ops) d =
    let (a, e) = step-behind op d in
    let (b, f) = place_kept ops (after op d) in
    (a ++ b, f ∙ ap (λ l. l ++ b) e ∙ append_assoc (callers d) a b)
