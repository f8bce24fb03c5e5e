-- Demand 3's first half, of calls on a session's own window: after every call all imports hold their exporters' addresses or their handlers'.
use Rattle.std.specs.Prelude.{ℕ, ◌≡◌, refl, List, [], ◌∷◌, ◌++◌, map, false, length}
use Rattle.std.proofs.Common.{sym, ap, ◌∙◌}
use Rattle.std.proofs.Math.Path.{subst}
use Rattle.window.specs.Memory.{byte_at}
use Rattle.window.specs.Within.{In}
use Rattle.history.specs.LoadedModule.{Image, LoadedModule, image_of}
use Rattle.history.specs.Sessions.{CallRecord, after, Fresh, Typed, unfit, own, brought, loaded_modules, standing, Between}
use Rattle.history.specs.Outcomes.{Gave, Follows}
use Rattle.history.specs.Windows.{given-length}
use Rattle.history.specs.Below.{Each, Pairs}
use Rattle.history.specs.Demand3.{CrsFirst, InWindow, images, Premises, AllHold, Linked, bytes_left, bytes_after}
use Rattle.history.specs.Sessions.Lists.{each_mono, each_left, pairs-left, standing-among}
use Rattle.history.specs.Sessions.Unique.{image_at, laid-at, once_at}
use Rattle.history.specs.Sessions.Conclude as conclude
use Rattle.history.specs.Theorem.Invariant.{standing_modules}
use Rattle.history.specs.Theorem.Step.{Holding, none_came, some_came, among_none, between-holds, step}

-- calls on the session's own window and register, each with document 01's outcome
pub data OwnCalls (at : ℕ) : List CallRecord → Type 0 where
  none : OwnCalls at []
  first
      : (t : CallRecord) → unfit t ≡ false → t.at ≡ at → Typed t → Fresh t.before → Gave Follows t → OwnCalls at (t ∷ [])
  next
      : (t u : CallRecord) (ts : List CallRecord) → OwnCalls at (u ∷ ts) → unfit t ≡ false → t.at ≡ at → Typed t
      → Between at (u ∷ ts) (after u) t.before → Gave Follows t → OwnCalls at (t ∷ u ∷ ts)

-- all of them are its own
pub own-all : (at : ℕ) (ts : List CallRecord) → OwnCalls at ts → own ts ≡ ts
unfolding own
own-all at ts none = refl
own-all at ts (first t f e typed b g) = rw f refl
own-all at ts (next t u us h f e typed b g) = rw f (ap (λ vs. t ∷ vs) (own-all at (u ∷ us) h))

map-append : (xs ys : List LoadedModule) → map image_of (xs ++ ys) ≡ map image_of xs ++ map image_of ys
map-append [] ys = refl
map-append (x ∷ xs) ys = ap (λ zs. image_of x ∷ zs) (map-append xs ys)

-- the premises of a session are those of its first calls
module _ (t u : CallRecord) (ts : List CallRecord) (same : (t.at ≡ u.at) × (length t.before.window ≡ length u.before.window))
    (whole : own (t ∷ u ∷ ts) ≡ t ∷ u ∷ ts) (less : own (u ∷ ts) ≡ u ∷ ts) (h : Premises (t ∷ u ∷ ts)) where
  split : images (t ∷ u ∷ ts) ≡ images (u ∷ ts) ++ map image_of (brought t)
  unfolding loaded_modules
  split = map-append (loaded_modules (u ∷ ts)) (brought t)

  each_less : (P : Image → Type 0) → Each P (images (t ∷ u ∷ ts)) → Each P (images (u ∷ ts))
  each_less P g = each_left P (images (u ∷ ts)) (map image_of (brought t)) (subst (Each P) split g)

  pairs_less : (R : Image → Image → Type 0) → Pairs R (images (t ∷ u ∷ ts)) → Pairs R (images (u ∷ ts))
  pairs_less R g = pairs-left R (images (u ∷ ts)) (map image_of (brought t)) (subst (Pairs R) split g)

  pub fewer_premises : Premises (u ∷ ts)
  unfolding Each CrsFirst InWindow
  fewer_premises =
      record {
        harmless = h.harmless.1;
        crs-first = h.crs-first.1;
        auto_linked = each_less _ h.auto_linked;
        imports_kept = each_less _ h.imports_kept;
        base-not_0 = each_less _ h.base-not_0;
        in_window =
            subst (λ us. Each (InWindow us) (images (u ∷ ts))) (sym less)
            (each_mono (InWindow (t ∷ u ∷ ts)) (InWindow (u ∷ ts)) (images (u ∷ ts))
            (λ a g q s. subst (λ n. In u.at n q) same.1 (subst (λ at. In at (length t.before.window) q) same.0 (g q s)))
            (subst (λ us. Each (InWindow us) (images (u ∷ ts))) whole (each_less _ h.in_window)));
        areas_apart = pairs_less _ h.areas_apart;
        other-names = pairs_less _ h.other-names;
        other_exports = pairs_less _ h.other_exports;
        exports_once = each_less _ h.exports_once;
        well_laid = each_less _ h.well_laid;
      }

all_hold
    : (t : CallRecord) (ts : List CallRecord) → own (t ∷ ts) ≡ t ∷ ts → Premises (t ∷ ts) → Holding t.at (t ∷ ts) (after t)
    → AllHold (map image_of (standing (t ∷ ts))) (bytes_after (t ∷ ts))
unfolding bytes_left AllHold Each
all_hold t ts mine h (none_came n f) =
    rw (among_none (standing (t ∷ ts)) (loaded_modules (t ∷ ts)) (standing-among (t ∷ ts)) n) tt
all_hold t ts mine h (some_came o c g) =
    let S = standing (t ∷ ts) in
    let m = standing-among (t ∷ ts) in
    rw mine
    (conclude.all_hold S (standing_modules S).rest (byte_at t.at (after t).window) g.rest
    (λ k l i j n p q. once_at (t ∷ ts) h S m (image_at S k) (laid-at (t ∷ ts) h S m k l) i j n p q))

-- after the last call, and after every call
unfoldable pub HoldsAfter : List CallRecord → Type 0
HoldsAfter [] = Unit {0}
HoldsAfter (t ∷ ts) = Holding t.at (t ∷ ts) (after t)

last-place : (at : ℕ) (u : CallRecord) (us : List CallRecord) → OwnCalls at (u ∷ us) → u.at ≡ at
last-place at u us (first v f e typed b g) = e
last-place at u us (next v w vs a f e typed b g) = e

last_follows : (at : ℕ) (u : CallRecord) (us : List CallRecord) → OwnCalls at (u ∷ us) → Gave Follows u
last_follows at u us (first v f e typed b g) = g
last_follows at u us (next v w vs a f e typed b g) = g

pub session : (at : ℕ) (ts : List CallRecord) → OwnCalls at ts → Premises ts → HoldsAfter ts × Linked ts
unfolding HoldsAfter Linked loaded_modules
session at ts none h = (tt, tt)
session at ts (first t f e typed fresh g) h =
    let k = step t [] g typed (own-all at (t ∷ []) (first t f e typed fresh g)) h (none_came refl fresh) in
    (k, (all_hold t [] (own-all at (t ∷ []) (first t f e typed fresh g)) h k, tt))
session at ts (next t u us s f e typed b g) h =
    let mine = own-all at (t ∷ u ∷ us) (next t u us s f e typed b g) in
    let place = last-place at u us s in
    let lengths = sym b.length_kept ∙ ap (λ o. length o.left.window) (last_follows at u us s) ∙ given-length u.call u.at u.before in
    let r = session at (u ∷ us) s (fewer_premises t u us (e ∙ sym place, lengths) mine (own-all at (u ∷ us) s) h) in
    let k =
    step t (u ∷ us) g typed mine h
    (between-holds t.at (u ∷ us) (after u) t.before (subst (λ a. Between a (u ∷ us) (after u) t.before) (sym e) b)
    (subst (λ a. Holding a (u ∷ us) (after u)) (place ∙ sym e) r.0)) in
    (k, (all_hold t (u ∷ us) mine h k, r.1))
