-- Demand 3: history does not show.
use Rattle.std.specs.Prelude.{ℕ, ◌<◌, ◌≡◌, refl, List, [], ◌∷◌, length, get_or}
use Rattle.std.proofs.Common.{sym, ap, ◌∙◌, subst, arith}
use Rattle.window.specs.Within.{Agree}
use Rattle.history.specs.LoadedModule.{LoadedModule, image_of, Area}
use Rattle.linker_spec.specs.declared.call.Call.{Call}
use Rattle.linker_spec.specs.declared.call.Call.TheVariants.{Initialize, Load, Unload}
use Rattle.linker_spec.specs.Outcome.{Buffers, Outcome}
use Rattle.history.specs.Sessions.{given, CallRecord, after, own, loaded_modules, standing, Trace}
use Rattle.history.specs.Outcomes.{Linker, Gave, Made, Promised, Follows}
use Rattle.linker_spec.specs.Refusals.{lent_register}
use Rattle.history.specs.Below.{Each}
use Rattle.history.specs.Demand3.{Demand3, Premises, SameStanding, NoByteDiffers, Linked, bytes_left, bytes_after}
use Rattle.history.specs.Steps.Wp.{Memory}
use Rattle.register.specs.Module.{Register}
use Rattle.history.specs.Sessions.Lists.{standing-among}
use Rattle.history.specs.Sessions.Unique.{no_module, image_at, laid-at}
use Rattle.history.specs.Sessions.Conclude.{same_count, same_loaded, same-images, no_byte_differs}
use Rattle.history.specs.Theorem.Invariant.{rest_for, rest_of_module, standing_modules, Resting}
use Rattle.history.specs.Theorem.CallRecords.{RestingIn}
use Rattle.history.specs.Theorem.Step.{none_came, some_came, among_none}
use Rattle.history.specs.Theorem.Theorem.{OwnCalls, own-all, HoldsAfter, session}
use Rattle.history.specs.Theorem.Own.{trace_own, premises_own, stands_own, linked-own}

-- modules that came alike have the same bytes at rest
rests_alike
    : (S T : List LoadedModule) → SameStanding S T → {r : Register} {M : Memory} → Resting S r M → (k : ℕ) → k < length S
    → Agree (Area (image_at S k)) (rest_of_module (get_or S k no_module)) (rest_of_module (get_or T k no_module))
rests_alike S T same h k l =
    let a = get_or S k no_module in
    let b = get_or T k no_module in
    let s = same_loaded S T same k l in
    subst (λ c. Agree (Area (image_of a)) (rest_of_module a) (rest_for c (image_of b) b.bytes)) s.0
    (subst (λ m. Agree (Area (image_of a)) (rest_of_module a) (rest_for a.load_call m b.bytes)) (same-images S T same k)
    (h.alike k l b.bytes s.1))

-- none stands
nothing_differs : (ts us : List CallRecord) → standing ts ≡ [] → NoByteDiffers ts us
unfolding NoByteDiffers Each
nothing_differs ts us e = rw e tt

none_stand : (ts : List CallRecord) → loaded_modules ts ≡ [] → standing ts ≡ []
none_stand ts e = among_none (standing ts) (loaded_modules ts) (standing-among ts) e

no_elements : (S : List LoadedModule) → length S ≡ 0 → S ≡ []
no_elements [] e = refl
no_elements (a ∷ S) e = absurd (omega arith)

nothing_same : (ts us : List CallRecord) → standing us ≡ [] → SameStanding (standing ts) (standing us) → NoByteDiffers ts us
nothing_same ts us e same =
    nothing_differs ts us (no_elements (standing ts) (same_count (standing ts) (standing us) same ∙ ap length e))

both_stand
    : (t u : CallRecord) (ts us : List CallRecord) → own (t ∷ ts) ≡ t ∷ ts → own (u ∷ us) ≡ u ∷ us → Premises (t ∷ ts)
    → RestingIn t.at (standing (t ∷ ts)) (after t) → RestingIn u.at (standing (u ∷ us)) (after u)
    → SameStanding (standing (t ∷ ts)) (standing (u ∷ us)) → NoByteDiffers (t ∷ ts) (u ∷ us)
unfolding bytes_left
both_stand t u ts us mine other h g i same =
    let S = standing (t ∷ ts) in
    let T = standing (u ∷ us) in
    no_byte_differs (t ∷ ts) (u ∷ us) (standing_modules S).rest (standing_modules T).rest (lent_register (after t)) (lent_register (after u)) (laid-at (t ∷ ts) h S (standing-among (t ∷ ts)))
    (rests_alike S T same g) (rw mine g.rest) (rw other i.rest) same

no_byte
    : (ts us : List CallRecord) → own ts ≡ ts → own us ≡ us → Premises ts → HoldsAfter ts → HoldsAfter us → SameStanding (standing ts) (standing us)
    → NoByteDiffers ts us
unfolding HoldsAfter standing
no_byte [] us m o h k l same = nothing_differs [] us refl
no_byte (t ∷ ts) [] m o h k l same = nothing_same (t ∷ ts) [] refl same
no_byte (t ∷ ts) (u ∷ us) m o h (none_came n f) l same = nothing_differs (t ∷ ts) (u ∷ us) (none_stand (t ∷ ts) n)
no_byte (t ∷ ts) (u ∷ us) m o h (some_came e c g) (none_came n f) same = nothing_same (t ∷ ts) (u ∷ us) (none_stand (u ∷ us) n) same
no_byte (t ∷ ts) (u ∷ us) m o h (some_came e c g) (some_came a d i) same = both_stand t u ts us m o h g i same

-- what one session keeps
module _ (at : ℕ) (ts : List CallRecord) (trace : Trace at ts) (made : Made Follows ts) (h : Premises ts) where
  calls : OwnCalls at (own ts)
  calls = trace_own at ts trace made

  kept : HoldsAfter (own ts) × Linked (own ts)
  kept = session at (own ts) calls (premises_own ts h)

  pub linked : Linked ts
  linked = linked-own ts kept.1

-- where two end alike
no_byte_own
    : (at bt : ℕ) (ts us : List CallRecord) → OwnCalls at (own ts) → OwnCalls bt (own us) → Premises (own ts) → HoldsAfter (own ts) → HoldsAfter (own us)
    → SameStanding (standing ts) (standing us) → NoByteDiffers ts us
unfolding NoByteDiffers
no_byte_own at bt ts us c d h k l same =
    let a = stands_own ts in
    let b = stands_own us in
    subst (λ S. Each (λ x. Agree (Area (image_of x)) (bytes_after ts) (bytes_after us)) S) a.0
    (subst (λ M. Each (λ x. Agree (Area (image_of x)) M (bytes_after us)) (standing (own ts))) a.1
    (subst (λ N. Each (λ x. Agree (Area (image_of x)) (bytes_after (own ts)) N) (standing (own ts))) b.1
    (no_byte (own ts) (own us) (own-all at (own ts) c) (own-all bt (own us) d) h k l
    (subst (λ S. SameStanding S (standing (own us))) (sym a.0) (subst (SameStanding (standing ts)) (sym b.0) same)))))

-- a linker that gives document 01's outcomes
follow : (L : Linker) → ((t : CallRecord) → Gave L t → Gave Follows t) → (ts : List CallRecord) → Made L ts → Made Follows ts
unfolding Each
follow L f [] h = tt
follow L f (t ∷ ts) h = (f t h.0, follow L f ts h.1)

pub demand3_of : (L : Linker) → ((t : CallRecord) → Gave L t → Gave Follows t) → Demand3 L
unfolding Demand3
demand3_of L f at bt ts us s r m n p q =
    let g = follow L f ts m in
    let h = follow L f us n in (
      (g, linked at ts s g p),
      (h, linked bt us r h q),
      no_byte_own at bt ts us (calls at ts s g p) (calls bt us r h q) (premises_own ts p) (kept at ts s g p).0 (kept bt us r h q).0,
    )

-- the exported contracts give them
pub promised_given : (c : Call) (at : ℕ) (b : Buffers) (o : Outcome) → Promised c at b o → Follows c at b o
unfolding Promised given
promised_given (Initialize base size) at b o e = e
promised_given (Load l auto level) at b o e = e
promised_given (Unload base) at b o e = e

-- and leave no call without an outcome
pub promised_answers : (c : Call) (at : ℕ) (b : Buffers) → (o : Outcome) × Promised c at b o
unfolding Promised given
promised_answers (Initialize base size) at b = (given (Initialize base size) at b, refl)
promised_answers (Load l auto level) at b = (given (Load l auto level) at b, refl)
promised_answers (Unload base) at b = (given (Unload base) at b, refl)

pub promised_follows : (t : CallRecord) → Gave Promised t → Gave Follows t
promised_follows t h = promised_given t.call t.at t.before t.gave h

-- of every linker that gives document 01's outcomes
pub demand3_follows : Demand3 Follows
demand3_follows = demand3_of Follows (λ t h. h)

-- of a linker that meets the exported contracts
pub demand3 : Demand3 Promised
demand3 = demand3_of Promised promised_follows
