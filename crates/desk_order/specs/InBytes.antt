-- The desk's order, said of the exported calls and their bytes.
use Prim.Native.Nat.{ℕ, zero, suc, ◌*◌, ◌≤◌}
use Rattle.std.specs.Prelude.{if◌then◌else◌, ◌≡◌, Bool, not, ◌&&◌, replicate, length, drop, get_or, eqb, Option, Some, None}
use Rattle.std.proofs.Math.Path.{refl, sym, ap}
use Rattle.std.proofs.Common.{◌∙◌, ne_eqb}
use mathlib.Core.List.{List, [], ◌∷◌, ◌++◌, append_assoc, append-nil}
use Rattle.std.proofs.Math.Bool.{true, false}
use native.Mathlib.Omega.{arith}
use Rattle.linker_spec.specs.Outcome.{Buffers}
use Rattle.history.specs.Below.{Each}
use Rattle.history.specs.Sessions.Lists.{each_left}
use Rattle.desk_spec.specs.declared.place.Change.TheVariants.{Sent}
use Rattle.desk_spec.specs.declared.command.Command.{Command}
use Rattle.desk_spec.specs.declared.command.Command.TheVariants.{Elsewhere, Acknowledged, Unknown}
use Rattle.desk_spec.specs.Desk.{Desk, place_at, place_of, no_room_for, oldest, changed, turn_of}
use Rattle.desk_spec.specs.Bytes.{desk_length, desk_of, with_desk}
use Rattle.desk_spec.specs.Command.{id_at, command_at}
use Rattle.desk_spec.specs.Outcome.{answered, handle_command, handle, serve, turn_outcome}
use Rattle.desk_order.specs.Ops.{Op, sends, turns, after, after_all, empty_desk, queue_of, accepted, served_at, served, all_accepted, all_served, turns_in}
use Rattle.desk_order.specs.Claims.{callers, ServedWithin}
use Rattle.desk_order.specs.Queues.{served_in_order, place_kept}
use Rattle.desk_order.specs.Rotation.{within_8_each, crowd, crowded, sharp}
use Rattle.desk_order.specs.Calls.{DeskCall, send, turn, bytes_after, after_calls, free, free_turns, op_of, ops_of, WordCall, WordCalls, took, gave_in, gave, taken_from, served_to, TurnWithin}
use Rattle.desk_order.specs.GoodDesk.{GoodDesk, send_outcome_lem, free-turn, other-turn, call_does, stands_after, follows, empty_stands}

-- T1: what the calls say they took and served

accepted-append : (c : ℕ) (a b : List Op) (d : Desk) → all_accepted c (a ++ b) d ≡ all_accepted c a d ++ all_accepted c b (after_all a d)
unfolding all_accepted after_all
accepted-append c [] b d = refl
accepted-append c (op ∷ a) b d =
    ap (λ l. accepted c op d ++ l) (accepted-append c a b (after op d))
    ∙ sym (append_assoc (accepted c op d) (all_accepted c a (after op d)) (all_accepted c b (after_all a (after op d))))

served-append : (c : ℕ) (a b : List Op) (d : Desk) → all_served c (a ++ b) d ≡ all_served c a d ++ all_served c b (after_all a d)
unfolding all_served after_all
served-append c [] b d = refl
served-append c (op ∷ a) b d =
    ap (λ l. served c op d ++ l) (served-append c a b (after op d))
    ∙ sym (append_assoc (served c op d) (all_served c a (after op d)) (all_served c b (after_all a (after op d))))

-- a buffer that is handled is served
some_served : (c : Command) (id at p : ℕ) (b : Buffers) → (handle_command c id at p b).served ≡ 0 → ⊥
unfolding handle_command answered
some_served (Command.Call c) id at p b e = omega arith
some_served Elsewhere id at p b e = omega arith
some_served Acknowledged id at p b e = omega arith
some_served Unknown id at p b e = omega arith

handle_serves : (at p : ℕ) (b : Buffers) → (handle at p b).served ≡ 0 → ⊥
unfolding handle
handle_serves at p b e = some_served (command_at at b.window p) (id_at at b.window p) at p b e

module _ (c : ℕ) (bytes : List ℕ) (s : GoodDesk bytes) where
  took_sent : (caller buffer : ℕ) → took c (send caller buffer) bytes ≡ accepted c (sends caller buffer) (desk_of bytes)
  unfolding took accepted
  took_sent caller buffer = rw (send_outcome_lem bytes s caller buffer) (go (no_room_for caller (desk_of bytes).places) (eqb caller c))
    where
      new : List ℕ
      new = with_desk (changed (Sent (place_of caller (desk_of bytes).places) caller buffer) (desk_of bytes)) bytes

      go
          : (r b : Bool)
          → (if eqb (if◌then◌else◌ {A = ℕ × ℕ × List ℕ} r (8, 0, bytes) (0, 0, new)).0 0 && b then buffer ∷ [] else [])
          ≡ (if b && not r then buffer ∷ [] else [])
      go true true = refl
      go true false = refl
      go false true = refl
      go false false = refl

  gave-served : (at : ℕ) (lent : Buffers) (t : Option ℕ) → gave_in c (serve t at bytes lent) ≡ served_at c t (desk_of bytes)
  unfolding serve served_at
  gave-served at lent None = refl
  gave-served at lent (Some i) =
      let p = oldest (place_at (desk_of bytes).places i) in
      rw (ne_eqb (handle at p lent).served 0 (handle_serves at p lent))

  took_is : (call : DeskCall) → took c call bytes ≡ all_accepted c (op_of call) (desk_of bytes)
  unfolding took op_of all_accepted accepted
  took_is (send caller buffer) = took_sent caller buffer ∙ sym (append-nil (accepted c (sends caller buffer) (desk_of bytes)))
  took_is (turn at lent) = go (free at lent)
    where
      go : (f : Bool) → [] ≡ all_accepted c (if f then turns ∷ [] else []) (desk_of bytes)
      go true = refl
      go false = refl

  gave_is : (call : DeskCall) → gave c call bytes ≡ all_served c (op_of call) (desk_of bytes)
  unfolding gave op_of all_served served
  gave_is (send caller buffer) = refl
  gave_is (turn at lent) = go (free at lent) refl
    where
      go : (f : Bool) → free at lent ≡ f → gave_in c (turn_outcome at bytes lent) ≡ all_served c (if f then turns ∷ [] else []) (desk_of bytes)
      go true f =
          ap (gave_in c) (free-turn bytes s at lent f)
          ∙ gave-served at lent (turn_of (desk_of bytes))
          ∙ sym (append-nil (served_at c (turn_of (desk_of bytes)) (desk_of bytes)))
      go false f = ap (gave_in c) (other-turn bytes s at lent f).1

taken_is
    : (c : ℕ) (calls : List DeskCall) (bytes : List ℕ) → GoodDesk bytes → WordCalls calls
    → taken_from c calls bytes ≡ all_accepted c (ops_of calls) (desk_of bytes)
unfolding taken_from ops_of all_accepted Each
taken_is c [] bytes s w = refl
taken_is c (call ∷ calls) bytes s w =
    let f = call_does call bytes s w.0 in
    let l : taken_from c calls (bytes_after call bytes) ≡ all_accepted c (ops_of calls) (after_all (op_of call) (desk_of bytes)) =
    taken_is c calls (bytes_after call bytes) f.stands w.1 ∙ ap (all_accepted c (ops_of calls)) f.reads in
    rw (took_is c bytes s call, l) (sym (accepted-append c (op_of call) (ops_of calls) (desk_of bytes)))

served_is
    : (c : ℕ) (calls : List DeskCall) (bytes : List ℕ) → GoodDesk bytes → WordCalls calls
    → served_to c calls bytes ≡ all_served c (ops_of calls) (desk_of bytes)
unfolding served_to ops_of all_served Each
served_is c [] bytes s w = refl
served_is c (call ∷ calls) bytes s w =
    let f = call_does call bytes s w.0 in
    let l : served_to c calls (bytes_after call bytes) ≡ all_served c (ops_of calls) (after_all (op_of call) (desk_of bytes)) =
    served_is c calls (bytes_after call bytes) f.stands w.1 ∙ ap (all_served c (ops_of calls)) f.reads in
    rw (gave_is c bytes s call, l) (sym (served-append c (op_of call) (ops_of calls) (desk_of bytes)))

-- "oldest first": what a caller is served is what was taken of it, in order, none lost and none twice
pub served_in_order_bytes
    : (c : ℕ) (start : List ℕ) → desk_length ≤ length start → desk_of start ≡ empty_desk → (calls : List DeskCall) → WordCalls calls
    → taken_from c calls start ≡ served_to c calls start ++ queue_of c (desk_of (after_calls calls start))
served_in_order_bytes c start l e calls w =
    let s = empty_stands start l e in
    taken_is c calls start s w
    ∙ ap (all_accepted c (ops_of calls)) e
    ∙ served_in_order c (ops_of calls)
    ∙ ap (λ d. all_served c (ops_of calls) d ++ queue_of c (after_all (ops_of calls) d)) (sym e)
    ∙ ap (λ k. k ++ queue_of c (after_all (ops_of calls) (desk_of start))) (sym (served_is c calls start s w))
    ∙ ap (λ d. served_to c calls start ++ queue_of c d) (sym (follows calls start s w))

-- T2: "A caller keeps its place"
pub place_kept_bytes
    : (calls : List DeskCall) (bytes : List ℕ) → GoodDesk bytes → WordCalls calls
    → (more : List ℕ) × (callers (desk_of (after_calls calls bytes)) ≡ callers (desk_of bytes) ++ more)
place_kept_bytes calls bytes s w =
    let (more, e) = place_kept (ops_of calls) (desk_of bytes) in
    (more, ap callers (follows calls bytes s w) ∙ e)

-- T4: a turn that serves among the desk's turns is one among the calls

record TurnAmong (calls : List DeskCall) (ops : List Op) : Type 0 where
  before : List DeskCall
  at : ℕ
  lent : Buffers
  rest : List DeskCall
  split : calls ≡ before ++ turn at lent ∷ rest
  its_free : free at lent ≡ true
  its_ops : ops_of before ≡ ops

one_later : (call : DeskCall) (calls : List DeskCall) (ops : List Op) → TurnAmong calls ops → TurnAmong (call ∷ calls) (op_of call ++ ops)
unfolding ops_of
one_later call calls ops t =
    record {
      before = call ∷ t.before;
      at = t.at;
      lent = t.lent;
      rest = t.rest;
      split = ap (λ l. call ∷ l) t.split;
      its_free = t.its_free;
      its_ops = ap (λ l. op_of call ++ l) t.its_ops;
    }

no_op : (op : Op) (ops : List Op) → ◌≡◌ {A = List Op} [] (op ∷ ops) → ⊥
no_op op ops e = let z : 0 ≡ suc (length ops) = ap length e in omega arith

not-turn : (caller buffer : ℕ) (ops rest : List Op) → ◌≡◌ {A = List Op} (sends caller buffer ∷ ops) (turns ∷ rest) → ⊥
not-turn caller buffer ops rest e = let z : ◌≡◌ {A = ℕ} 0 1 = cc in omega arith

among_send
    : (caller buffer : ℕ) (calls : List DeskCall) (op : Op) (ops : List Op) → op ≡ sends caller buffer → TurnAmong calls ops
    → TurnAmong (send caller buffer ∷ calls) (op ∷ ops)
unfolding op_of
among_send caller buffer calls op ops e t = rw e (one_later (send caller buffer) calls ops t)

among-free
    : (at : ℕ) (lent : Buffers) (calls : List DeskCall) (op : Op) (ops : List Op) → free at lent ≡ true → op ≡ turns → TurnAmong calls ops
    → TurnAmong (turn at lent ∷ calls) (op ∷ ops)
unfolding op_of
among-free at lent calls op ops f e t =
    let z : op_of (turn at lent) ++ ops ≡ turns ∷ ops = rw f in
    rw (e, ← z) (one_later (turn at lent) calls ops t)

among-other
    : (at : ℕ) (lent : Buffers) (calls : List DeskCall) (ops : List Op) → free at lent ≡ false → TurnAmong calls ops
    → TurnAmong (turn at lent ∷ calls) ops
unfolding op_of
among-other at lent calls ops f t = let z : op_of (turn at lent) ++ ops ≡ ops = rw f in rw z at (one_later (turn at lent) calls ops t)

among-turn
    : (at : ℕ) (lent : Buffers) (calls : List DeskCall) (rest : List Op) (f : Bool) → free at lent ≡ f
    → ((ops : List Op) → ops_of calls ≡ ops ++ turns ∷ rest → TurnAmong calls ops) → (ops : List Op)
    → (if f then turns ∷ [] else []) ++ ops_of calls ≡ ops ++ turns ∷ rest → TurnAmong (turn at lent ∷ calls) ops
unfolding ops_of
among-turn at lent calls rest true f among [] e =
    record { before = []; at = at; lent = lent; rest = calls; split = refl; its_free = f; its_ops = refl }
among-turn at lent calls rest true f among (op ∷ ops) e =
    among-free at lent calls op ops f (sym (ap (λ l. get_or l 0 turns) e)) (among ops (ap (drop 1) e))
among-turn at lent calls rest false f among ops e = among-other at lent calls ops f (among ops e)

turn-among : (calls : List DeskCall) (ops rest : List Op) → ops_of calls ≡ ops ++ turns ∷ rest → TurnAmong calls ops
unfolding ops_of op_of
turn-among [] [] rest e = absurd (no_op turns rest e)
turn-among [] (op ∷ ops) rest e = absurd (no_op op (ops ++ turns ∷ rest) e)
turn-among (send caller buffer ∷ calls) [] rest e = absurd (not-turn caller buffer (ops_of calls) rest e)
turn-among (send caller buffer ∷ calls) (op ∷ ops) rest e =
    among_send caller buffer calls op ops (sym (ap (λ l. get_or l 0 turns) e)) (turn-among calls ops rest (ap (drop 1) e))
turn-among (turn at lent ∷ calls) ops rest e = among-turn at lent calls rest (free at lent) refl (λ ops₁. turn-among calls ops₁ rest) ops e

turns-free : (calls : List DeskCall) → turns_in (ops_of calls) ≡ free_turns calls
unfolding ops_of op_of turns_in free_turns
turns-free [] = refl
turns-free (send caller buffer ∷ calls) = turns-free calls
turns-free (turn at lent ∷ calls) = go (free at lent) (turns-free calls)
  where
    go
        : (f : Bool) → turns_in (ops_of calls) ≡ free_turns calls
        → turns_in ((if f then turns ∷ [] else []) ++ ops_of calls) ≡ (if f then suc (free_turns calls) else free_turns calls)
    go true e = ap suc e
    go false e = e

module _ (bytes : List ℕ) (s : GoodDesk bytes) (calls : List DeskCall) (w : WordCalls calls) (n caller : ℕ) (earlier : List ℕ)
    (buffer : ℕ) (r : ServedWithin n caller buffer (ops_of calls) (desk_of bytes)) (u : all_served caller r.before (desk_of bytes) ≡ earlier)
    (t : TurnAmong calls r.before) where
  abbrev bytes_then : List ℕ
  bytes_then = after_calls t.before bytes

  words_before : WordCalls t.before
  words_before = each_left WordCall t.before (turn t.at t.lent ∷ t.rest) (rw t.split at w)

  reads_then : desk_of bytes_then ≡ after_all r.before (desk_of bytes)
  reads_then = follows t.before bytes s words_before ∙ ap (λ ops. after_all ops (desk_of bytes)) t.its_ops

  turn-then : turn_outcome t.at bytes_then t.lent ≡ serve (Some r.place) t.at bytes_then t.lent
  turn-then =
      free-turn bytes_then (stands_after t.before bytes s words_before) t.at t.lent t.its_free
      ∙ ap (λ k. serve k t.at bytes_then t.lent) (ap turn_of reads_then ∙ r.its_turn)

  serves_then : (turn_outcome t.at bytes_then t.lent).did.served ≡ 0 → ⊥
  unfolding serve
  serves_then z =
      handle_serves t.at (oldest (place_at (desk_of bytes_then).places r.place)) t.lent (sym (ap (λ o. o.did.served) turn-then) ∙ z)

  caller_then : (turn_outcome t.at bytes_then t.lent).caller ≡ caller
  unfolding serve
  caller_then = ap (λ o. o.caller) turn-then ∙ ap (λ d. (place_at d.places r.place).caller) reads_then ∙ r.its_caller

  buffer_then : (turn_outcome t.at bytes_then t.lent).buffer ≡ buffer
  unfolding serve
  buffer_then = ap (λ o. o.buffer) turn-then ∙ ap (λ d. oldest (place_at d.places r.place)) reads_then ∙ r.its_buffer

  served-then : served_to caller t.before bytes ≡ earlier
  served-then = served_is caller t.before bytes s words_before ∙ ap (λ ops. all_served caller ops (desk_of bytes)) t.its_ops ∙ u

  turn-within : TurnWithin n caller earlier buffer calls bytes
  turn-within =
      let m : turns_in r.before ≡ free_turns t.before = ap turns_in (sym t.its_ops) ∙ turns-free t.before in
      record {
        before = t.before;
        at = t.at;
        lent = t.lent;
        rest = t.rest;
        split = t.split;
        its_free = t.its_free;
        soon = rw m at r.soon;
        until_then = served-then;
        serves = serves_then;
        its_caller = caller_then;
        its_buffer = buffer_then;
      }

-- a desk reached from an empty one
module _ (start : List ℕ) (l : desk_length ≤ length start) (e : desk_of start ≡ empty_desk) (earlier calls : List DeskCall)
    (v : WordCalls earlier) (w : WordCalls calls) where
  reached_stands : GoodDesk (after_calls earlier start)
  reached_stands = stands_after earlier start (empty_stands start l e) v

  -- a buffer behind others of its caller is served, after them, within 8 turns for each
  pub served-within_8_each
      : (caller : ℕ) (ahead : List ℕ) (buffer : ℕ) (later : List ℕ) → queue_of caller (desk_of (after_calls earlier start)) ≡ ahead ++ buffer ∷ later
      → 8 * suc (length ahead) ≤ free_turns calls → TurnWithin (8 * suc (length ahead)) caller ahead buffer calls (after_calls earlier start)
  served-within_8_each caller ahead buffer later q f =
      let bytes = after_calls earlier start in
      let (r, u) = within_8_each (ops_of calls) (desk_of bytes) reached_stands.limits caller ahead buffer later q (rw (turns-free calls) f) in
      turn-within bytes reached_stands calls w (8 * suc (length ahead)) caller ahead buffer r u (turn-among calls r.before r.rest r.split)

  -- "a waiting one is served within 8 turns free of 3 and 4"
  pub served-within_8
      : (caller buffer : ℕ) (later : List ℕ) → queue_of caller (desk_of (after_calls earlier start)) ≡ buffer ∷ later → 8 ≤ free_turns calls
      → TurnWithin 8 caller [] buffer calls (after_calls earlier start)
  served-within_8 caller buffer later q f = served-within_8_each caller [] buffer later q f

-- the bound is sharp: eight callers wait, and caller 0 has just been served

unfoldable pub crowding : ℕ → Buffers → List DeskCall
crowding at lent =
    send 0 10 ∷ send 1 11 ∷ send 2 12 ∷ send 3 13 ∷ send 4 14 ∷ send 5 15 ∷ send 6 16 ∷ send 7 17 ∷ send 0 100 ∷ turn at lent ∷ []

module _ (at : ℕ) (lent : Buffers) (f : free at lent ≡ true) where
  crowding-words : WordCalls (crowding at lent)
  unfolding crowding Each WordCall
  crowding-words = omega arith

  crowding_ops : ops_of (crowding at lent) ≡ crowd
  unfolding crowding crowd ops_of op_of
  crowding_ops = rw f

  more-turns : (n : ℕ) → WordCalls (replicate n (turn at lent)) × (ops_of (replicate n (turn at lent)) ≡ replicate n turns)
  unfolding Each WordCall ops_of op_of
  more-turns zero = (tt, refl)
  more-turns (suc n) = let (w, e) = more-turns n in ((tt, w), rw f (ap (λ l. turns ∷ l) e))

  module _ (start : List ℕ) (l : desk_length ≤ length start) (e : desk_of start ≡ empty_desk) where
    reads_crowded : desk_of (after_calls (crowding at lent) start) ≡ crowded
    unfolding crowded
    reads_crowded =
        follows (crowding at lent) start (empty_stands start l e) crowding-words ∙ ap (after_all (ops_of (crowding at lent))) e
        ∙ ap (λ ops. after_all ops empty_desk) crowding_ops

    served_by : (n : ℕ) → served_to 0 (replicate n (turn at lent)) (after_calls (crowding at lent) start) ≡ all_served 0 (replicate n turns) crowded
    served_by n =
        let (w, o) = more-turns n in
        let s = stands_after (crowding at lent) start (empty_stands start l e) crowding-words in
        served_is 0 (replicate n (turn at lent)) (after_calls (crowding at lent) start) s w
        ∙ ap (all_served 0 (ops_of (replicate n (turn at lent)))) reads_crowded
        ∙ ap (λ ops. all_served 0 ops crowded) o

    pub sharp_bytes
        : (queue_of 0 (desk_of (after_calls (crowding at lent) start)) ≡ 100 ∷ [])
        × (served_to 0 (replicate 7 (turn at lent)) (after_calls (crowding at lent) start) ≡ [])
        × (served_to 0 (replicate 8 (turn at lent)) (after_calls (crowding at lent) start) ≡ 100 ∷ [])
    sharp_bytes = (ap (queue_of 0) reads_crowded ∙ sharp.0, served_by 7 ∙ sharp.1, served_by 8 ∙ sharp.2)
