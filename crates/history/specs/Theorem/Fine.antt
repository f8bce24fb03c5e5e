-- What the premises say of the modules that stand, after calls on the session's own window.
use Rattle.std.specs.Prelude.{◌+◌, ◌^◌, ◌≤◌, ◌≡◌, List, ◌∷◌, length}
use Rattle.std.proofs.Common.{subst}
use Rattle.history.specs.LoadedModule.{LoadedModule}
use Rattle.history.specs.Sessions.{CallRecord, own, loaded_modules}
use Rattle.history.specs.Demand3.{InWindow, Premises}
use Rattle.history.specs.Sessions.Lists.{Sublist}
use Rattle.history.specs.Sessions.Unique.{image_at, laid-at, base-at, inside-at, apart-at, names_at, exports_at}
use Rattle.history.specs.Theorem.Calls.{Fine}

pub fine
    : (t : CallRecord) (ts : List CallRecord) → own (t ∷ ts) ≡ t ∷ ts → Premises (t ∷ ts) → (S : List LoadedModule) → Sublist S (loaded_modules (t ∷ ts))
    → t.at + length t.before.window ≤ 2 ^ 32 → Fine t.at (length t.before.window) S
unfolding InWindow
fine t ts o h S m top =
    record {
      top = top;
      laid = laid-at (t ∷ ts) h S m;
      nonzero = base-at (t ∷ ts) h S m;
      inside = λ k q l a. subst (λ us. InWindow us (image_at S k)) o (inside-at (t ∷ ts) h S m k l) q a;
      apart = apart-at (t ∷ ts) h S m;
      names = names_at (t ∷ ts) h S m;
      exports = exports_at (t ∷ ts) h S m;
    }
