-- What a call promises of the session that it goes on: demand 3, of the code that runs.
use Rattle.std.specs.Prelude.{ℕ, List, [], ◌∷◌}
use Rattle.history.specs.Below.{Each}
use Rattle.history.specs.Sessions.{CallRecord, Typed, standing, Next, Trace}
use Rattle.history.specs.Outcomes.{Gave, Made, Promised, Follows}
use Rattle.history.specs.Demand3.{Demand3, Premises, Linked, SameStanding, NoByteDiffers}
use Rattle.history.specs.Theorem.Demand3.{demand3, promised_follows}

-- a session of the exported calls
unfoldable pub Session : ℕ → List CallRecord → Type 0
Session at ts = Trace at ts × Made Promised ts

pub record Continues (t : CallRecord) : Type 0 where
  -- the exported call's contract
  pub promised : Gave Promised t
  -- document 01's outcome
  pub follows : Gave Follows t
  -- the arguments are 32-bit numbers, the window and the records bytes
  pub typed : Typed t
  -- a session with this call added is again a session
  pub goes_on : (at : ℕ) (ts : List CallRecord) → Session at ts → Next at ts t → Session at (t ∷ ts)
  -- under the premises every import holds its address after it, and after each call before it
  pub linked : (at : ℕ) (ts : List CallRecord) → Session at ts → Next at ts t → Premises (t ∷ ts) → Linked (t ∷ ts)
  -- and no byte differs from another session that ends alike
  pub no_byte
      : (at bt : ℕ) (ts us : List CallRecord) → Session at ts → Session bt us → Next at ts t → Premises (t ∷ ts) → Premises us
      → SameStanding (standing (t ∷ ts)) (standing us) → NoByteDiffers (t ∷ ts) us

-- no call yet
pub begins : (at : ℕ) → Session at []
unfolding Session Trace Each
begins at = (tt, tt)

-- one more
added : (t : CallRecord) → Typed t → Gave Promised t → (at : ℕ) (ts : List CallRecord) → Session at ts → Next at ts t → Session at (t ∷ ts)
unfolding Session Trace Each
added t typed p at ts s n = ((typed, n, s.0), (p, s.1))

pub continues : (t : CallRecord) → Typed t → Gave Promised t → Continues t
unfolding Session Demand3
continues t typed p =
    record {
      promised = p;
      follows = promised_follows t p;
      typed = typed;
      goes_on = added t typed p;
      linked = λ at ts s n h. let r = added t typed p at ts s n in (demand3 at at (t ∷ ts) (t ∷ ts) r.0 r.0 r.1 r.1 h h).0.1;
      no_byte =
          λ at bt ts us s q n h g.
          let r = added t typed p at ts s n in (demand3 at bt (t ∷ ts) us r.0 q.0 r.1 q.1 h g).2;
    }
