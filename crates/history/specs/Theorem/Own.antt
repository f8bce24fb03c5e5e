-- A session is what its calls on its own window and register make it: those lent what breaks a rule, 3 and 4, change nothing of it.
use Rattle.std.specs.Prelude.{if◌then◌else◌, ℕ, ◌≡◌, refl, List, [], ◌∷◌, ◌++◌, map, Bool, true, false, ◌||◌, eqb}
use Rattle.std.proofs.Common.{sym, ap, ◌∙◌, subst, arith, eqb-true}
use Rattle.linker_spec.specs.Calls.{number}
use Rattle.history.specs.LoadedModule.{Image, image_of}
use Rattle.history.specs.Sessions.{CallRecord, expected, Typed, done, unfit, own, brought, loaded_modules, stay, standing, Lends, Next, Trace}
use Rattle.history.specs.Outcomes.{Gave, Made, Follows}
use Rattle.history.specs.Below.{Each, Pairs}
use Rattle.history.specs.Demand3.{InOrder, Harmless, CrsFirst, InWindow, images, Premises, AllHold, Linked, bytes_left, bytes_after}
use Rattle.history.specs.Theorem.Step.{lists_refused}
use Rattle.history.specs.Theorem.Theorem.{OwnCalls, none, first, next}

-- 3 and 4 are refusals
unfit-refused : (t : CallRecord) → unfit t ≡ true → done t ≡ false
unfolding unfit done number
unfit-refused t = go (expected t).number (eqb (expected t).number 3) refl (eqb (expected t).number 4) refl
  where
    go : (n : ℕ) (a : Bool) → eqb n 3 ≡ a → (b : Bool) → eqb n 4 ≡ b → (a || b) ≡ true → eqb n 0 ≡ false
    go n true e b f u = rw (eqb-true n 3 e) refl
    go n false e true f u = rw (eqb-true n 4 f) refl
    go n false e false f u = let z : ◌≡◌ {A = ℕ} 0 1 = ap (λ (x : Bool). if x then 1 else 0) u in absurd (omega (arith, z))

-- what came and stands is as before them
loaded_own : (ts : List CallRecord) → loaded_modules (own ts) ≡ loaded_modules ts
unfolding own loaded_modules
loaded_own [] = refl
loaded_own (t ∷ ts) = go (unfit t) refl (loaded_own ts)
  where
    go : (x : Bool) → unfit t ≡ x → loaded_modules (own ts) ≡ loaded_modules ts → loaded_modules (if x then own ts else t ∷ own ts) ≡ loaded_modules ts ++ brought t
    go true e h = h ∙ sym (lists_refused t ts (unfit-refused t e)).0
    go false e h = ap (λ S. S ++ brought t) h

standing-own : (ts : List CallRecord) → standing (own ts) ≡ standing ts
unfolding own standing
standing-own [] = refl
standing-own (t ∷ ts) = go (unfit t) refl (standing-own ts)
  where
    go
        : (x : Bool) → unfit t ≡ x → standing (own ts) ≡ standing ts
        → standing (if x then own ts else t ∷ own ts) ≡ (if done t then stay t.call (standing ts) else standing ts) ++ brought t
    go true e h = h ∙ sym (lists_refused t ts (unfit-refused t e)).1
    go false e h = ap (λ S. (if done t then stay t.call S else S) ++ brought t) h

own-own : (ts : List CallRecord) → own (own ts) ≡ own ts
unfolding own
own-own [] = refl
own-own (t ∷ ts) = go (unfit t) refl (own-own ts)
  where
    go
        : (x : Bool) → unfit t ≡ x → own (own ts) ≡ own ts
        → own (if x then own ts else t ∷ own ts) ≡ (if x then own ts else t ∷ own ts)
    go true e h = h
    go false e h = rw e (ap (λ us. t ∷ us) h)

-- a trace's own calls
one_more
    : (at : ℕ) (t : CallRecord) (us : List CallRecord) → unfit t ≡ false → t.at ≡ at → Typed t → Lends at us t.before → Gave Follows t → OwnCalls at us
    → OwnCalls at (t ∷ us)
unfolding Lends
one_more at t [] f e typed b g c = first t f e typed b g
one_more at t (u ∷ us) f e typed b g c = next t u us c f e typed b g

pub trace_own : (at : ℕ) (ts : List CallRecord) → Trace at ts → Made Follows ts → OwnCalls at (own ts)
unfolding own Trace Next Each
trace_own at [] h g = none
trace_own at (t ∷ ts) h g = go (unfit t) refl (trace_own at ts h.2 g.1)
  where
    go : (x : Bool) → unfit t ≡ x → OwnCalls at (own ts) → OwnCalls at (if x then own ts else t ∷ own ts)
    go true e c = c
    go false e c = let l = h.1 e in one_more at t (own ts) e l.0 h.0 l.1 g.0 c

-- and its premises are theirs
each_own : (P : CallRecord → Type 0) (ts : List CallRecord) → Each P ts → Each P (own ts)
unfolding own Each
each_own P [] h = tt
each_own P (t ∷ ts) h = go (unfit t) (each_own P ts h.1)
  where
    go : (x : Bool) → Each P (own ts) → Each P (if x then own ts else t ∷ own ts)
    go true g = g
    go false g = (h.0, g)

crs-first-own : (ts : List CallRecord) → CrsFirst ts → CrsFirst (own ts)
unfolding own CrsFirst
crs-first-own [] h = tt
crs-first-own (t ∷ ts) h = go (unfit t) (crs-first-own ts h.1)
  where
    go : (x : Bool) → CrsFirst (own ts) → CrsFirst (if x then own ts else t ∷ own ts)
    go true g = g
    go false g = ((λ d. subst (InOrder t.call) (sym (loaded_own ts)) (h.0 d)), g)

pub premises_own : (ts : List CallRecord) → Premises ts → Premises (own ts)
premises_own ts h =
    record {
      harmless = each_own Harmless ts h.harmless;
      crs-first = crs-first-own ts h.crs-first;
      auto_linked = each _ h.auto_linked;
      imports_kept = each _ h.imports_kept;
      base-not_0 = each _ h.base-not_0;
      in_window = subst (λ us. Each (InWindow us) (images (own ts))) (sym (own-own ts)) (each _ h.in_window);
      areas_apart = pairs _ h.areas_apart;
      other-names = pairs _ h.other-names;
      other_exports = pairs _ h.other_exports;
      exports_once = each _ h.exports_once;
      well_laid = each _ h.well_laid;
    }
  where
    same : images (own ts) ≡ images ts
    same = ap (map image_of) (loaded_own ts)

    each : (P : Image → Type 0) → Each P (images ts) → Each P (images (own ts))
    each P g = subst (Each P) (sym same) g

    pairs : (R : Image → Image → Type 0) → Pairs R (images ts) → Pairs R (images (own ts))
    pairs R g = subst (Pairs R) (sym same) g

-- what stands and the bytes after all calls are those after its own
pub stands_own : (ts : List CallRecord) → (standing (own ts) ≡ standing ts) × (bytes_after (own ts) ≡ bytes_after ts)
stands_own ts = (standing-own ts, ap bytes_left (own-own ts))

-- what holds after its own calls holds after every call
last-holds : (ts : List CallRecord) → Linked ts → AllHold (map image_of (standing ts)) (bytes_after ts)
unfolding Linked standing AllHold Each
last-holds [] h = tt
last-holds (t ∷ ts) h = h.0

-- of one of its own, after all before it and after its own before it
one_holds : (t : CallRecord) (ts : List CallRecord) → unfit t ≡ false → Linked (t ∷ own ts) → AllHold (map image_of (standing (t ∷ ts))) (bytes_after (t ∷ ts))
unfolding own Linked standing bytes_left
one_holds t ts e h =
    let g : AllHold (map image_of ((if done t then stay t.call (standing (own ts)) else standing (own ts)) ++ brought t)) (bytes_left (t ∷ ts)) =
    rw e at h.0 in
    rw e
    (subst (λ S. AllHold (map image_of ((if done t then stay t.call S else S) ++ brought t)) (bytes_left (t ∷ ts))) (standing-own ts) g)

pub linked-own : (ts : List CallRecord) → Linked (own ts) → Linked ts
unfolding own Linked
linked-own [] h = tt
linked-own (t ∷ ts) h = go (unfit t) refl h (linked-own ts)
  where
    go : (x : Bool) → unfit t ≡ x → Linked (if x then own ts else t ∷ own ts) → (Linked (own ts) → Linked ts) → Linked (t ∷ ts)
    go true e g f = let l = f g in (rw ((lists_refused t ts (unfit-refused t e)).1, e) (last-holds ts l), l)
    go false e g f = (one_holds t ts e g, f g.1)
