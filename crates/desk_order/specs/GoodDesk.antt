-- A desk in lent bytes, and that the exported calls do there what is done at the desk.
use Rattle.std.specs.Prelude.{if◌then◌else◌, ℕ, suc, ◌+◌, ◌-◌, ◌^◌, ◌≤◌, ◌<◌, Bool, ◌&&◌, length, drop, replicate, ltb, Option, Some, None}
use Rattle.std.proofs.Math.Path.{◌≡◌, refl}
use Rattle.std.proofs.Common.{sym, ap, ◌∙◌, arith, get_or-drop, le-ltb}
use mathlib.Core.List.{List, [], ◌∷◌, ◌++◌}
use Rattle.std.proofs.Math.Bool.{true, false}
use Rattle.std.proofs.Math.Seq.{length-sets}
use Rattle.window.specs.Memory.{good_window}
use Rattle.window.specs.Tests.{both}
use Rattle.register.specs.Decode.{is_register}
use Rattle.register.specs.Words.{flat, words_in}
use Rattle.register.specs.Buffers.{Below}
use Rattle.register.specs.Append.Laid.{below_append, below_one}
use Rattle.linker_spec.specs.Outcome.{Buffers}
use Rattle.history.specs.Below.{Each}
use Rattle.desk_spec.specs.declared.place.Change.TheVariants.{Sent, Served}
use Rattle.desk_spec.specs.Desk.{place, Desk, place_at, place_of, no_room_for, place_after, changed, turn_of}
use Rattle.desk_spec.specs.Bytes.{desk_length, desk_words, desk_of, desk_in, places_in, with_desk, words_from}
use Rattle.desk_spec.specs.Outcome.{send_outcome, idle, turn_at, serve, turn_outcome}
use Rattle.desk_spec.specs.Places.{each_with, each_place, turn_serves}
use Rattle.desk_order.specs.Ops.{Op, turns, send_to, serve_at, after, after_all, empty_desk}
use Rattle.desk_order.specs.Claims.{Limits}
use Rattle.desk_order.specs.Limits.{limits_sent, limits-served, empty-limits}
use Rattle.desk_order.specs.Calls.{DeskCall, send, turn, bytes_after, after_calls, free, op_of, ops_of, WordCall, WordCalls, WordPlace, Words}
use Rattle.desk_order.specs.ReadBack.{reads_back}
use Rattle.desk_order.specs.Refusals.{keeps_3, keeps_4}

-- what is stored stays in words

below_drop : (l : List ℕ) → Below (2 ^ 32) l → Below (2 ^ 32) (drop 1 l)
below_drop l b i = rw (get_or-drop 1 l i 0) (b (1 + i))

nobody_words : WordPlace (place 0 [])
nobody_words = (omega arith, λ i. omega arith)

words_sent
    : (caller buffer : ℕ) (d : Desk) → caller < 2 ^ 32 → buffer < 2 ^ 32 → Words d
    → Words (changed (Sent (place_of caller d.places) caller buffer) d)
unfolding changed place_after
words_sent caller buffer d c b w =
    let i = place_of caller d.places in
    let waiting = (place_at d.places i).waiting in
    each_with WordPlace d.places i (place caller (waiting ++ buffer ∷ [])) w
    (c, below_append waiting (buffer ∷ []) (2 ^ 32) (each_place WordPlace d.places i w nobody_words).1 (below_one buffer b))

words-served : (i : ℕ) (d : Desk) → Words d → Words (changed (Served i) d)
unfolding changed place_after
words-served i d w =
    let p = place_at d.places i in
    let (c, b) = each_place WordPlace d.places i w nobody_words in
    each_with WordPlace d.places i (place p.caller (drop 1 p.waiting)) w (c, below_drop p.waiting b)

-- bytes that hold a desk within its limits, whose callers and buffers are words
pub record GoodDesk (bytes : List ℕ) : Type 0 where
  pub long : desk_length ≤ length bytes
  pub limits : Limits (desk_of bytes)
  pub words : Words (desk_of bytes)

length-with-desk : (d : Desk) (bytes : List ℕ) → length (with_desk d bytes) ≡ length bytes
unfolding with_desk
length-with-desk d bytes = length-sets bytes 0 (flat (words_from d desk_words 0))

-- a desk stored over another
stored : (d : Desk) (bytes : List ℕ) → GoodDesk bytes → Limits d → Words d → GoodDesk (with_desk d bytes)
stored d bytes s h w =
    let l = s.long in
    let e = reads_back d bytes h w l in
    record { long = rw (length-with-desk d bytes) l; limits = rw e h; words = rw e w }

-- what a call does at the desk

pub record DeskLeft (after : Desk) (n : ℕ) (bytes : List ℕ) : Type 0 where
  pub reads : desk_of bytes ≡ after
  pub same_length : length bytes ≡ n
  pub stands : GoodDesk bytes

module _ (bytes : List ℕ) (s : GoodDesk bytes) where
  long_enough : ltb (length bytes) desk_length ≡ false
  long_enough = le-ltb (length bytes) desk_length s.long

  stores : (d : Desk) → Limits d → Words d → DeskLeft d (length bytes) (with_desk d bytes)
  stores d h w = record { reads = reads_back d bytes h w s.long; same_length = length-with-desk d bytes; stands = stored d bytes s h w }

  unchanged : DeskLeft (desk_of bytes) (length bytes) bytes
  unchanged = record { reads = refl; same_length = refl; stands = s }

  -- the sending, decided by its one test
  pub send_outcome_lem
      : (caller buffer : ℕ)
      → send_outcome caller buffer bytes
      ≡ (if no_room_for caller (desk_of bytes).places then (8, 0, bytes)
      else (0, 0, with_desk (changed (Sent (place_of caller (desk_of bytes).places) caller buffer) (desk_of bytes)) bytes))
  unfolding send_outcome
  send_outcome_lem caller buffer = rw long_enough

  send_does
      : (caller buffer : ℕ) → caller < 2 ^ 32 → buffer < 2 ^ 32
      → DeskLeft (send_to caller buffer (desk_of bytes)) (length bytes) (send_outcome caller buffer bytes).2
  unfolding send_to
  send_does caller buffer c b = rw (send_outcome_lem caller buffer) (go (no_room_for caller (desk_of bytes).places) refl)
    where
      new : Desk
      new = changed (Sent (place_of caller (desk_of bytes).places) caller buffer) (desk_of bytes)

      go
          : (r : Bool) → no_room_for caller (desk_of bytes).places ≡ r
          → DeskLeft (if r then desk_of bytes else new) (length bytes) (if◌then◌else◌ {A = ℕ × ℕ × List ℕ} r (8, 0, bytes) (0, 0, with_desk new bytes)).2
      go true e = unchanged
      go false e = stores new (limits_sent caller buffer (desk_of bytes) e s.limits) (words_sent caller buffer (desk_of bytes) c b s.words)

  module _ (at : ℕ) (lent : Buffers) where
    pub free-turn : free at lent ≡ true → turn_outcome at bytes lent ≡ serve (turn_of (desk_of bytes)) at bytes lent
    unfolding turn_outcome turn_at free
    free-turn f =
        let (g, r) = both (good_window at lent.window) (is_register lent.records lent.names lent.missing) f in
        rw (g, r, long_enough)

    -- a turn that meets 3 or 4 leaves the desk's bytes, and serves nobody
    pub other-turn : free at lent ≡ false → (n : ℕ) × (turn_outcome at bytes lent ≡ idle n bytes lent)
    unfolding free
    other-turn = go (good_window at lent.window) refl (is_register lent.records lent.names lent.missing) refl
      where
        go
            : (g : Bool) → good_window at lent.window ≡ g → (r : Bool) → is_register lent.records lent.names lent.missing ≡ r
            → (g && r) ≡ false → (n : ℕ) × (turn_outcome at bytes lent ≡ idle n bytes lent)
        go true good true valid f = let z : ◌≡◌ {A = ℕ} 0 1 = cc in absurd (omega arith)
        go true good false valid f = (4, keeps_4 at lent bytes good valid)
        go false good r valid f = (3, keeps_3 at lent bytes good)

    serve_does : (t : Option ℕ) → turn_of (desk_of bytes) ≡ t → DeskLeft (serve_at t (desk_of bytes)) (length bytes) (serve t at bytes lent).desk
    unfolding serve_at serve
    serve_does None e = unchanged
    serve_does (Some i) e =
        stores (changed (Served i) (desk_of bytes)) (limits-served i (desk_of bytes) (turn_serves (desk_of bytes) i e).0 s.limits)
        (words-served i (desk_of bytes) s.words)

    turn_does : DeskLeft (after_all (op_of (turn at lent)) (desk_of bytes)) (length bytes) (turn_outcome at bytes lent).desk
    unfolding op_of after_all after
    turn_does = go (free at lent) refl
      where
        go
            : (f : Bool) → free at lent ≡ f
            → DeskLeft (after_all (if f then turns ∷ [] else []) (desk_of bytes)) (length bytes) (turn_outcome at bytes lent).desk
        go true f = rw (free-turn f) (serve_does (turn_of (desk_of bytes)) refl)
        go false f = let (n, e) = other-turn f in rw e unchanged

pub call_does
    : (call : DeskCall) (bytes : List ℕ) → GoodDesk bytes → WordCall call
    → DeskLeft (after_all (op_of call) (desk_of bytes)) (length bytes) (bytes_after call bytes)
unfolding WordCall bytes_after op_of after_all after
call_does (send caller buffer) bytes s w = send_does bytes s caller buffer w.0 w.1
call_does (turn at lent) bytes s w = turn_does bytes s at lent

after-append : (a b : List Op) (d : Desk) → after_all (a ++ b) d ≡ after_all b (after_all a d)
unfolding after_all
after-append [] b d = refl
after-append (op ∷ a) b d = after-append a b (after op d)

pub stands_after : (calls : List DeskCall) (bytes : List ℕ) → GoodDesk bytes → WordCalls calls → GoodDesk (after_calls calls bytes)
unfolding after_calls Each
stands_after [] bytes s w = s
stands_after (call ∷ calls) bytes s w = stands_after calls (bytes_after call bytes) (call_does call bytes s w.0).stands w.1

-- the bytes go as the desk does
pub follows
    : (calls : List DeskCall) (bytes : List ℕ) → GoodDesk bytes → WordCalls calls
    → desk_of (after_calls calls bytes) ≡ after_all (ops_of calls) (desk_of bytes)
unfolding after_calls ops_of after_all Each
follows [] bytes s w = refl
follows (call ∷ calls) bytes s w =
    let f = call_does call bytes s w.0 in
    follows calls (bytes_after call bytes) f.stands w.1
    ∙ ap (after_all (ops_of calls)) f.reads
    ∙ sym (after-append (op_of call) (ops_of calls) (desk_of bytes))

pub length_kept : (calls : List DeskCall) (bytes : List ℕ) → GoodDesk bytes → WordCalls calls → length (after_calls calls bytes) ≡ length bytes
unfolding after_calls Each
length_kept [] bytes s w = refl
length_kept (call ∷ calls) bytes s w =
    let f = call_does call bytes s w.0 in
    length_kept calls (bytes_after call bytes) f.stands w.1 ∙ f.same_length

-- an empty desk, as all bytes 0 are one

zero-bytes : (m : ℕ) → desk_of (replicate (suc (suc (suc (suc (suc (suc (suc (suc m)))))))) 0) ≡ empty_desk
unfolding desk_of desk_in places_in words_in
zero-bytes m = refl

pub empty-desk : (n : ℕ) → desk_length ≤ n → desk_of (replicate n 0) ≡ empty_desk
empty-desk n l =
    let z : n ≡ suc (suc (suc (suc (suc (suc (suc (suc (n - 8)))))))) = omega arith in
    ap (λ k. desk_of (replicate k 0)) z ∙ zero-bytes (n - 8)

pub empty_stands : (bytes : List ℕ) → desk_length ≤ length bytes → desk_of bytes ≡ empty_desk → GoodDesk bytes
unfolding Each
empty_stands bytes l e = record { long = l; limits = rw e empty-limits; words = rw e tt }
