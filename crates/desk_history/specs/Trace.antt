-- The calls of a session through the desk are a session in the sense of demand 3.
use Rattle.std.specs.Prelude.{if◌then◌else◌, ℕ, ◌≡◌, Bool, None}
use Rattle.std.proofs.Math.Path.{refl, subst}
use Rattle.std.proofs.Common.{sym, ap, ◌∙◌}
use mathlib.Core.List.{List, [], ◌∷◌, ◌++◌}
use Rattle.std.proofs.Math.Bool.{true, false}
use Rattle.linker_spec.specs.Outcome.{Buffers}
use Rattle.linker_spec.specs.Refusals.{lent_register}
use Rattle.history.specs.Sessions.{CallRecord, after, Fresh, SameBytes, Between, Lends, Next, Trace}
use Rattle.desk_history.specs.Sessions.{TurnRecord, left, fit, calls_of, calls, own_turns, BufferApart, LendsTurn, NextTurn, DeskSession}
use Rattle.desk_history.specs.Turns.{TurnDid, idles, replies, makes, unfit_makes_none, turn-did, left_by, called, areas_as_called}
use Rattle.desk_history.specs.Calls.{calls-fit, own-all, word_arguments}

same-register : (b c : Buffers) → SameBytes b c → lent_register b ≡ lent_register c
same-register b c s = rw (s.0, s.1, s.2)

same-fresh : (b c : Buffers) → SameBytes b c → Fresh b → Fresh c
unfolding Fresh
same-fresh b c s h = subst (λ r. (r.modules ≡ []) × (r.crs ≡ None)) (same-register b c s) h

-- turns lent what breaks a rule make no call
calls-own : (ts : List TurnRecord) → calls (own_turns ts) ≡ calls ts
unfolding calls own_turns
calls-own [] = refl
calls-own (t ∷ ts) = go (fit t) refl (calls-own ts)
  where
    go : (f : Bool) → fit t ≡ f → calls (own_turns ts) ≡ calls ts → calls (if f then t ∷ own_turns ts else own_turns ts) ≡ calls_of t ++ calls ts
    go true f e = ap (λ cs. calls_of t ++ cs) e
    go false f e = rw (unfit_makes_none t f) e

module _ (at : ℕ) where
  -- one after the other
  between-then : (cs : List CallRecord) (b c d : Buffers) → Between at cs b c → Between at cs c d → Between at cs b d
  between-then cs b c d h g =
      record {
        register = (h.register.0 ∙ g.register.0, h.register.1 ∙ g.register.1, h.register.2 ∙ g.register.2);
        length_kept = h.length_kept ∙ g.length_kept;
        areas_kept = λ q a. h.areas_kept q a ∙ g.areas_kept q a;
      }

  -- what may be lent after calls is so after what keeps their areas
  lends_on : (cs : List CallRecord) (b c : Buffers) → Lends at cs b → Between at cs b c → Lends at cs c
  unfolding Lends
  lends_on [] b c h g = same-fresh b c g.register h
  lends_on (r ∷ cs) b c h g = between-then (r ∷ cs) (after r) b c h g

  -- and so is what is lent after one more turn
  lends_more : (cs ds : List CallRecord) (b c : Buffers) → Lends at ds b → Between at (cs ++ ds) (left_by cs b) c → Lends at (cs ++ ds) c
  unfolding Lends left_by
  lends_more [] ds b c h g = lends_on ds b c h g
  lends_more (r ∷ cs) ds b c h g = g

  -- what a fit turn left, and what others leave of it
  module _ (t : TurnRecord) (ts : List TurnRecord) (b : Buffers) where
    turn_lends
        : t.at ≡ at → Lends at (calls ts) t.before → BufferApart t (calls (t ∷ ts)) → Between at (calls (t ∷ own_turns ts)) (left t) b
        → Lends at (calls (t ∷ ts)) b
    unfolding calls
    turn_lends e h apart l =
        let cs = calls_of t ++ calls ts in
        let replied = subst (λ x. Between x cs (called t) (left t)) e (areas_as_called t cs apart) in
        let others = subst (λ ds. Between at (calls_of t ++ ds) (left t) b) (calls-own ts) l in
        lends_more (calls_of t) (calls ts) t.before b h (between-then cs (called t) (left t) b replied others)

    lends_unfit : fit t ≡ false → Lends at (calls ts) b → Lends at (calls (t ∷ ts)) b
    unfolding calls
    lends_unfit f h = rw (unfit_makes_none t f) h

  -- what a turn may be lent after a session, a call may be lent after the session's calls
  pub lends_calls : (ts : List TurnRecord) → DeskSession at ts → (b : Buffers) → LendsTurn at (own_turns ts) b → Lends at (calls ts) b
  unfolding DeskSession NextTurn own_turns LendsTurn calls Lends
  lends_calls [] h b l = l
  lends_calls (t ∷ ts) h b l = go (fit t) refl l (lends_calls ts h.2)
    where
      go
          : (f : Bool) → fit t ≡ f → LendsTurn at (if f then t ∷ own_turns ts else own_turns ts) b
          → ((c : Buffers) → LendsTurn at (own_turns ts) c → Lends at (calls ts) c) → Lends at (calls (t ∷ ts)) b
      go true f l before = let n = h.1 f in turn_lends t ts b n.0 (before t.before n.1) n.2 l
      go false f l before = lends_unfit t ts b f (before b l)

  -- a session through the desk is, in its calls, a session
  pub desk_trace : (ts : List TurnRecord) → DeskSession at ts → Trace at (calls ts)
  unfolding calls Trace Next DeskSession NextTurn
  desk_trace [] h = tt
  desk_trace (t ∷ ts) h = go (turn-did t) (desk_trace ts h.2)
    where
      go : TurnDid t → Trace at (calls ts) → Trace at (calls_of t ++ calls ts)
      go (idles n e) before = rw n before
      go (replies i s n words l e) before = rw n before
      go (makes f i s c m n words l e) before =
          let lent = h.1 f in
          rw n (
            (word_arguments t h.0.0 c m, h.0),
            (λ _. (lent.0, subst (λ cs. Lends at cs t.before) (sym (own-all (calls ts) (calls-fit ts))) (lends_calls ts h.2 t.before lent.1))),
            before,
          )
