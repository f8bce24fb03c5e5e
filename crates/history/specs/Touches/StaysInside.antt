-- In a session of demand 3 no call that gives 0 has an access with a byte outside the window, and no call that gives 3 or 4 has any.
use Rattle.std.specs.Prelude.{if◌then◌else◌, ℕ, zero, suc, ◌<◌, ◌≡◌, ◌≢◌, Bool, true, false, not, ◌||◌, eqb}
use Rattle.std.proofs.Math.Path.{refl, subst}
use Rattle.std.proofs.Common.{sym, ap, ◌∙◌, arith}
use mathlib.Core.List.{List, [], ◌∷◌, ◌++◌}
use Rattle.std.proofs.Math.ListN.{length}
use Rattle.window.specs.Memory.{byte_at}
use Rattle.window.specs.Edges.{good_end}
use Rattle.linker_spec.specs.declared.call.Call.{Call}
use Rattle.linker_spec.specs.declared.call.Call.TheVariants.{Initialize, Load, Unload}
use Rattle.linker_spec.specs.declared.rebase.LoadArguments.{LoadArguments}
use Rattle.linker_spec.specs.Calls as calls
use Rattle.linker_spec.specs.Calls.{first_with_base}
use Rattle.linker_spec.specs.Outcome.{Buffers}
use Rattle.linker_spec.specs.Refusals.{lent_register}
use Rattle.linker_spec.specs.Touches.{touches_of}
use Rattle.history.specs.LoadedModule.{loaded, LoadedModule, base_of, is_crs}
use Rattle.history.specs.Below.{Each, Pairs, length_more}
use Rattle.history.specs.Sessions.{CallRecord, after, done, unfit, own, comes, brought, loaded_modules, standing, Fresh, WordArguments, Typed, Between, Trace}
use Rattle.history.specs.Outcomes.{Gave, Made, Promised, Follows}
use Rattle.history.specs.Windows.{program, given-length}
use Rattle.history.specs.Demand3.{InOrder, AutoLinked, ImportsKept, CrsFirst, Premises}
use Rattle.history.specs.Steps.Asking.{true_false}
use Rattle.history.specs.Sessions.Lists.{each_mono, OtherBase, Sublist, among-left, among-append, among_trans, among_each, standing-among, leaver}
use Rattle.history.specs.Sessions.Unique.{no_module, image_at, auto_at, kept_at, other_bases}
use Rattle.history.specs.Sessions.Registers.{UnloadFinds, goes, none, found, last-at}
use Rattle.history.specs.Sessions.Answers.{program_of, Performed, performed, done-zero}
use Rattle.history.specs.Theorem.Calls.{Fine}
use Rattle.history.specs.Theorem.Fine.{fine}
use Rattle.history.specs.Theorem.Step.{Holding, none_came, some_came, between-holds}
use Rattle.history.specs.Theorem.Theorem.{OwnCalls, none, first, next, own-all, fewer_premises, HoldsAfter, session}
use Rattle.history.specs.Theorem.Own.{trace_own, premises_own}
use Rattle.history.specs.Theorem.Demand3.{promised_follows}
use Rattle.history.specs.Touches.Programs.{whole-counts}
use Rattle.history.specs.Touches.Unfit.{unfit-inside}
use Rattle.history.specs.Touches.Inside.{Inside, initialize-inside, load_inside, unload-inside, unknown_inside}

-- a call that gives 0, 3 or 4 by document 01 touches nothing; not so the refusals that a session may have beside: a load of an address outside
-- the window gives 1, leaves all unchanged and has touched its magic
unfoldable pub StaysInside : CallRecord → Type 0
StaysInside t = (done t || unfit t) ≡ true → touches_of t.call t.at t.before ≡ (0, 0)

-- a call that was done on what the calls before it left
module _ (t : CallRecord) (ts : List CallRecord) (typed : Typed t) (mine : own (t ∷ ts) ≡ t ∷ ts) (h : Premises (t ∷ ts)) (d : done t ≡ true) where
  abbrev at : ℕ
  at = t.at

  abbrev b : Buffers
  b = t.before

  did : Performed t.call at b
  did = performed t.call at b (done-zero t d)

  order : (c : Call) → t.call ≡ c → InOrder c (loaded_modules ts)
  unfolding CrsFirst
  order c e = subst (λ x. InOrder x (loaded_modules ts)) e (h.crs-first.0 d)

  words : (c : Call) → t.call ≡ c → WordArguments c
  words c e = subst WordArguments e typed.0

  module _ (c : Call) (e : t.call ≡ c) where
    abbrev new : List LoadedModule
    new = comes c (byte_at at b.window)

    came : loaded_modules ts ++ new ≡ loaded_modules (t ∷ ts)
    unfolding loaded_modules brought
    came = rw (d, e) refl

    fine_all : (S : List LoadedModule) → Sublist S (loaded_modules (t ∷ ts)) → Fine at (length b.window) S
    fine_all S m = fine t ts mine h S m (good_end at b.window did.good)

    more-among : Sublist (standing ts ++ new) (loaded_modules (t ∷ ts))
    more-among = subst (Sublist (standing ts ++ new)) came (among-append (standing ts) (loaded_modules ts) new (standing-among ts))

    old-among : Sublist (standing ts) (loaded_modules (t ∷ ts))
    old-among =
        subst (Sublist (standing ts)) came
        (among_trans (standing ts) (loaded_modules ts) (loaded_modules ts ++ new) (standing-among ts) (among-left (loaded_modules ts) new))

  initialize-done
      : (base size : ℕ) → t.call ≡ Initialize base size → Holding at ts b → Inside at b.window (program_of (Initialize base size) b)
  unfolding InOrder Fresh comes program
  initialize-done base size e (some_came o s g) = absurd (o (order (Initialize base size) e))
  initialize-done base size e (none_came n g) =
      let c = Initialize base size in
      initialize-inside at b.window (standing ts) base size (fine_all c e (standing ts ++ new c e) (more-among c e)) typed.1.0
      (lent_register b) g.0 (length b.records) (length b.names)

  load-done
      : (l : LoadArguments) (auto level : ℕ) → t.call ≡ Load l auto level → Holding at ts b → Inside at b.window (program_of (Load l auto level) b)
  unfolding InOrder WordArguments comes AutoLinked ImportsKept program
  load-done l auto level e (none_came n g) = absurd (order (Load l auto level) e n)
  load-done l auto level e (some_came o s g) =
      let c = Load l auto level in
      let S = standing ts in
      let a : LoadedModule = record { load_call = loaded l (not (eqb auto 0)) level; bytes = byte_at at b.window } in
      let top : length S < length (S ++ (a ∷ [])) = let n = length_more S a in omega (arith, n) in
      let auto_linked : AutoLinked (loaded l (not (eqb auto 0)) level) =
      subst (λ y. AutoLinked y.load_call) (last-at S a no_module) (auto_at (t ∷ ts) h (S ++ (a ∷ [])) (more-among c e) (length S) top) in
      let kept : ImportsKept (loaded l (not (eqb auto 0)) level) =
      subst (λ y. ImportsKept y.load_call) (last-at S a no_module) (kept_at (t ∷ ts) h (S ++ (a ∷ [])) (more-among c e) (length S) top) in
      let w = words c e in
      subst (λ y. Inside at b.window (calls.load l y level (length b.records) (length b.names) (lent_register b))) (sym auto_linked)
      (load_inside at b.window S (lent_register b) g l (not (eqb auto 0)) level (fine_all c e (S ++ (a ∷ [])) (more-among c e)) typed.1.0
      w.2 w.4 kept.0 kept.1 (length b.records) (length b.names))

  unload-done : (base : ℕ) → t.call ≡ Unload base → Holding at ts b → Inside at b.window (program_of (Unload base) b)
  unfolding InOrder Fresh first_with_base program
  unload-done base e (none_came n g) = unknown_inside at b.window base (lent_register b) (rw g.0 refl)
  unload-done base e (some_came o s g) =
      go
      (found base S (lent_register b) bases (record { recorded = g.rest.register_matches.recorded; number = g.rest.register_matches.many }) (leaver base S bases crs))
    where
      S : List LoadedModule
      S = standing ts

      bases : Pairs OtherBase S
      bases = other_bases (t ∷ ts) h S (old-among (Unload base) e)

      crs : Each (λ a. is_crs a.load_call ≡ true → base_of a.load_call ≢ base) S
      crs =
          among_each (λ a. is_crs a.load_call ≡ true → base_of a.load_call ≢ base) S (loaded_modules ts) (standing-among ts)
          (order (Unload base) e)

      above : (k : ℕ) → is_crs (image_at S k).load_call ≡ false → 0 < k
      above zero i = absurd (true_false (sym s ∙ i))
      above (suc k) i = omega arith

      go : UnloadFinds base S (lent_register b).modules → Inside at b.window (calls.unload base (lent_register b))
      go (none q z) = unknown_inside at b.window base (lent_register b) z
      go (goes k r l y i q z rec) =
          subst (λ x. Inside at b.window (calls.unload x (lent_register b))) y
          (unload-inside at b.window S (lent_register b) g (fine_all (Unload base) e S (old-among (Unload base) e)) k (above k i) l)

  done-inside : Holding at ts b → touches_of t.call at b ≡ (0, 0)
  done-inside g = whole-counts t.call at b did ∙ call t.call refl
    where
      call : (c : Call) → t.call ≡ c → Inside at b.window (program_of c b)
      call (Initialize base size) e = initialize-done base size e g
      call (Load l auto level) e = load-done l auto level e g
      call (Unload base) e = unload-done base e g

call-inside : (t : CallRecord) (ts : List CallRecord) → Typed t → own (t ∷ ts) ≡ t ∷ ts → Premises (t ∷ ts) → Holding t.at ts t.before → StaysInside t
unfolding StaysInside
call-inside t ts typed mine h g = go (done t) refl
  where
    go : (x : Bool) → done t ≡ x → (x || unfit t) ≡ true → touches_of t.call t.at t.before ≡ (0, 0)
    go true d u = done-inside t ts typed mine h d g
    go false d u = unfit-inside t u

-- the session's own calls
last-own : (at : ℕ) (u : CallRecord) (us : List CallRecord) → OwnCalls at (u ∷ us) → (u.at ≡ at) × Gave Follows u
last-own at u us (first v f e typed b g) = (e, g)
last-own at u us (next v w vs a f e typed b g) = (e, g)

own-inside : (at : ℕ) (ts : List CallRecord) → OwnCalls at ts → Premises ts → Each StaysInside ts
unfolding Each HoldsAfter loaded_modules
own-inside at ts none h = tt
own-inside at ts (first t f e typed fresh g) h =
    (call-inside t [] typed (own-all at (t ∷ []) (first t f e typed fresh g)) h (none_came refl fresh), tt)
own-inside at ts (next t u us s f e typed b g) h =
    let mine = own-all at (t ∷ u ∷ us) (next t u us s f e typed b g) in
    let last = last-own at u us s in
    let lengths = sym b.length_kept ∙ ap (λ o. length o.left.window) last.1 ∙ given-length u.call u.at u.before in
    let less = fewer_premises t u us (e ∙ sym last.0, lengths) mine (own-all at (u ∷ us) s) h in
    let held =
    between-holds t.at (u ∷ us) (after u) t.before (subst (λ a. Between a (u ∷ us) (after u) t.before) (sym e) b)
    (subst (λ a. Holding a (u ∷ us) (after u)) (last.0 ∙ sym e) (session at (u ∷ us) s less).0) in
    (call-inside t (u ∷ us) typed mine h held, own-inside at (u ∷ us) s less)

-- and those lent what breaks a rule
all-inside : (ts : List CallRecord) → Each StaysInside (own ts) → Each StaysInside ts
unfolding own Each StaysInside
all-inside [] h = tt
all-inside (t ∷ ts) h = go (unfit t) refl h (all-inside ts)
  where
    go
        : (x : Bool) → unfit t ≡ x → Each StaysInside (if x then own ts else t ∷ own ts) → (Each StaysInside (own ts) → Each StaysInside ts)
        → Each StaysInside (t ∷ ts)
    go true e g f = ((λ _. unfit-inside t e), f g)
    go false e g f = (g.0, f g.1)

pub stays_inside : (at : ℕ) (ts : List CallRecord) → Trace at ts → Made Follows ts → Premises ts → Each StaysInside ts
stays_inside at ts trace made h = all-inside ts (own-inside at (own ts) (trace_own at ts trace made) (premises_own ts h))

-- of the exported calls
pub stays_inside_promised : (at : ℕ) (ts : List CallRecord) → Trace at ts → Made Promised ts → Premises ts → Each StaysInside ts
stays_inside_promised at ts trace made h =
    stays_inside at ts trace (each_mono (Gave Promised) (Gave Follows) ts promised_follows made) h
