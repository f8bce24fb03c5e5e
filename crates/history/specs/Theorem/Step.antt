-- One call more: what holds before it holds after it.
use Rattle.std.specs.Prelude.{ℕ, zero, suc, ◌<◌, ◌≡◌, ◌≢◌, Bool, false, not, get_or, eqb}
use Rattle.std.proofs.Math.Path.{refl, sym, ap, subst}
use Rattle.std.proofs.Common.{◌∙◌, arith}
use mathlib.Core.List.{List, [], ◌∷◌, ◌++◌}
use Rattle.std.proofs.Math.Bool.{true}
use Rattle.std.proofs.Math.ListN.{length, get_or-append}
use Rattle.window.specs.Memory.{byte_at}
use Rattle.window.specs.Edges.{good_end}
use Rattle.linker_spec.specs.declared.rebase.LoadArguments.{LoadArguments}
use Rattle.linker_spec.specs.Calls.{unknown, first_with_base}
use Rattle.linker_spec.specs.Outcome.{Buffers}
use Rattle.linker_spec.specs.Refusals.{lent_register}
use Rattle.history.specs.LoadedModule.{initialized, loaded, LoadedModule, base_of, is_crs}
use Rattle.linker_spec.specs.declared.call.Call.{Call}
use Rattle.linker_spec.specs.declared.call.Call.TheVariants.{Initialize, Load, Unload}
use Rattle.history.specs.Sessions.{given, CallRecord, after, expected, Fresh, WordArguments, Typed, SameBytes, done, own, comes, brought, loaded_modules, others, stay, standing, Between}
use Rattle.history.specs.Outcomes.{Gave, Follows}
use Rattle.history.specs.Below.{Each, Pairs, length_more}
use Rattle.history.specs.Demand3.{InOrder, AutoLinked, ImportsKept, Harmless, CrsFirst, Premises}
use Rattle.history.specs.Steps.Leaving.{skip-low}
use Rattle.history.specs.Sessions.Lists.{lacking, lacking-at, OtherBase, Sublist, nothing, keeps, drops, among_each, standing-among, leaver}
use Rattle.history.specs.Sessions.Unique.{no_module, image_at, auto_at, kept_at, other_bases}
use Rattle.history.specs.Sessions.Registers.{Registered, UnloadFinds, goes, none, found, last-at}
use Rattle.history.specs.Sessions.Answers.{Performed, performed, done-zero, unload_unknown}
use Rattle.history.specs.Theorem.CallRecords.{RestingIn, follows_rests, between_rests, initialize-call, load-call, unload-call}
use Rattle.history.specs.Theorem.Fine.{fine}

-- nothing came and the register is as at the start, or the CRS came and all that stand are at rest
pub data Holding (at : ℕ) (ts : List CallRecord) (b : Buffers) : Type 0 where
  none_came : loaded_modules ts ≡ [] → Fresh b → Holding at ts b
  some_came : loaded_modules ts ≢ [] → is_crs (image_at (standing ts) 0).load_call ≡ true → RestingIn at (standing ts) b → Holding at ts b

nil_right : (xs : List LoadedModule) → xs ++ [] ≡ xs
nil_right [] = refl
nil_right (x ∷ xs) = ap (λ ys. x ∷ ys) (nil_right xs)

pub among_none : (S A : List LoadedModule) → Sublist S A → A ≡ [] → S ≡ []
among_none S A nothing e = refl
among_none S A (keeps a us vs h) e = let z : suc (length vs) ≡ 0 = ap length e in absurd (omega arith)
among_none S A (drops a us vs h) e = let z : suc (length vs) ≡ 0 = ap length e in absurd (omega arith)

fresh-same : (b c : Buffers) → SameBytes b c → Fresh b → Fresh c
unfolding Fresh
fresh-same b c e f = rw (← e.0, ← e.1, ← e.2) f

pub between-holds : (at : ℕ) (ts : List CallRecord) (left got : Buffers) → Between at ts left got → Holding at ts left → Holding at ts got
between-holds at ts left got e (none_came a f) = none_came a (fresh-same left got e.register f)
between-holds at ts left got e (some_came o c h) = some_came o c (between_rests at ts left got (standing ts) (standing-among ts) e h)

module _ (t : CallRecord) (ts : List CallRecord) where
  abbrev at : ℕ
  at = t.at

  abbrev b : Buffers
  b = t.before

  pub lists_refused : done t ≡ false → (loaded_modules (t ∷ ts) ≡ loaded_modules ts) × (standing (t ∷ ts) ≡ standing ts)
  unfolding loaded_modules standing brought
  lists_refused d = (rw d (nil_right (loaded_modules ts)), rw d (nil_right (standing ts)))

  lists_done
      : done t ≡ true → (c : Call) → t.call ≡ c
      → (loaded_modules (t ∷ ts) ≡ loaded_modules ts ++ comes c (byte_at at b.window))
      × (standing (t ∷ ts) ≡ stay c (standing ts) ++ comes c (byte_at at b.window))
  unfolding loaded_modules standing brought
  lists_done d c e = (rw (d, e) refl, rw (d, e) refl)

  -- a call that leaves all as it was
  quiet
      : Gave Follows t → loaded_modules (t ∷ ts) ≡ loaded_modules ts → standing (t ∷ ts) ≡ standing ts → (expected t).left ≡ b → Holding at ts b
      → Holding at (t ∷ ts) (after t)
  quiet f a s e (none_came n g) =
      none_came (a ∙ n)
      (subst Fresh (sym (ap (λ o. o.left) f ∙ e)) g)
  quiet f a s e (some_came o c h) =
      some_came (λ z. o (sym a ∙ z)) (subst (λ S. is_crs (image_at S 0).load_call ≡ true) (sym s) c)
      (subst (λ S. RestingIn at S (after t)) (sym s)
      (follows_rests t (standing ts) f (subst (RestingIn at (standing ts)) (sym e) h)))

  module _ (f : Gave Follows t) (typed : Typed t) (mine : own (t ∷ ts) ≡ t ∷ ts) (h : Premises (t ∷ ts)) (d : done t ≡ true) where
    did : (c : Call) → t.call ≡ c → Performed c at b
    did c e = performed c at b (subst (λ x. (given x at b).number ≡ 0) e (done-zero t d))

    among : (S : List LoadedModule) → standing (t ∷ ts) ≡ S → Sublist S (loaded_modules (t ∷ ts))
    among S e = subst (λ x. Sublist x (loaded_modules (t ∷ ts))) e (standing-among (t ∷ ts))

    follow
        : (c : Call) → t.call ≡ c → (S : List LoadedModule) → standing (t ∷ ts) ≡ S → RestingIn at S (given c at b).left
        → RestingIn at (standing (t ∷ ts)) (after t)
    follow c e S s g =
        subst (λ x. RestingIn at x (after t)) (sym s) (follows_rests t S f (subst (λ x. RestingIn at S (given x at b).left) (sym e) g))

    order : (c : Call) → t.call ≡ c → InOrder c (loaded_modules ts)
    unfolding CrsFirst
    order c e = subst (λ x. InOrder x (loaded_modules ts)) e (h.crs-first.0 d)

    words : (c : Call) → t.call ≡ c → WordArguments c
    words c e = subst WordArguments e typed.0

    came_some : (A : List LoadedModule) (a : LoadedModule) → loaded_modules (t ∷ ts) ≡ A ++ (a ∷ []) → loaded_modules (t ∷ ts) ≢ []
    came_some A a e z = let n = length_more A a in let y : length (A ++ (a ∷ [])) ≡ 0 = ap length (sym e ∙ z) in absurd (omega (arith, n, y))

    initialize-step : (base size : ℕ) → t.call ≡ Initialize base size → Holding at ts b → Holding at (t ∷ ts) (after t)
    unfolding InOrder WordArguments comes stay Fresh
    initialize-step base size e (some_came o c g) = absurd (o (order (Initialize base size) e))
    initialize-step base size e (none_came n g) =
        let x = lists_done d (Initialize base size) e in
        let a : LoadedModule = record { load_call = initialized base size; bytes = byte_at at b.window } in
        let p = did (Initialize base size) e in
        let s : standing (t ∷ ts) ≡ a ∷ [] =
        x.1 ∙ ap (λ S. S ++ (a ∷ [])) (among_none (standing ts) (loaded_modules ts) (standing-among ts) n) in
        let w = words (Initialize base size) e in
        some_came (came_some (loaded_modules ts) a x.0) (subst (λ S. is_crs (image_at S 0).load_call ≡ true) (sym s) refl)
        (follow (Initialize base size) e (a ∷ []) s
        (initialize-call at b typed.1 base size w.0 w.1 p g.0
        (fine t ts mine h (a ∷ []) (among (a ∷ []) s) (good_end at b.window p.good))))

    load_step : (l : LoadArguments) (auto level : ℕ) → t.call ≡ Load l auto level → Holding at ts b → Holding at (t ∷ ts) (after t)
    unfolding InOrder WordArguments comes stay AutoLinked ImportsKept
    load_step l auto level e (none_came n g) = absurd (order (Load l auto level) e n)
    load_step l auto level e (some_came o c g) =
        let x = lists_done d (Load l auto level) e in
        let a : LoadedModule = record { load_call = loaded l (not (eqb auto 0)) level; bytes = byte_at at b.window } in
        let p = did (Load l auto level) e in
        let S = standing ts in
        let m : Sublist (S ++ (a ∷ [])) (loaded_modules (t ∷ ts)) = among (S ++ (a ∷ [])) x.1 in
        let top : length S < length (S ++ (a ∷ [])) = let n = length_more S a in omega (arith, n) in
        let auto_linked : AutoLinked (loaded l (not (eqb auto 0)) level) =
        subst (λ y. AutoLinked y.load_call) (last-at S a no_module) (auto_at (t ∷ ts) h (S ++ (a ∷ [])) m (length S) top) in
        let kept : ImportsKept (loaded l (not (eqb auto 0)) level) =
        subst (λ y. ImportsKept y.load_call) (last-at S a no_module) (kept_at (t ∷ ts) h (S ++ (a ∷ [])) m (length S) top) in
        let w = words (Load l auto level) e in
        some_came (came_some (loaded_modules ts) a x.0)
        (subst (λ T. is_crs (image_at T 0).load_call ≡ true) (sym x.1)
        (subst (λ y. is_crs y.load_call ≡ true) (sym (get_or-append S (a ∷ []) no_module 0 g.rest.linked_state.some)) c))
        (follow (Load l auto level) e (S ++ (a ∷ [])) x.1
        (load-call at b typed.1 S l auto level w.0 w.1 w.2 w.4 auto_linked kept.0 kept.1 p g
        (fine t ts mine h (S ++ (a ∷ [])) m (good_end at b.window p.good))))

    unload-step : (base : ℕ) → t.call ≡ Unload base → Holding at ts b → Holding at (t ∷ ts) (after t)
    unfolding InOrder comes stay Fresh others first_with_base
    unload-step base e (none_came n g) =
        let x = lists_done d (Unload base) e in
        let p = did (Unload base) e in
        let s : standing ts ≡ [] = among_none (standing ts) (loaded_modules ts) (standing-among ts) n in
        let z : first_with_base base (lent_register b).modules 0 ≡ unknown = rw g.0 refl in
        quiet f (x.0 ∙ nil_right (loaded_modules ts)) (x.1 ∙ ap (λ S. others base S ++ []) s ∙ sym s)
        (ap (λ c. (given c at b).left) e ∙ unload_unknown base at b p z) (none_came n g)
    unload-step base e (some_came o c g) = go (found base S (lent_register b) bases registered (leaver base S bases crs))
      where
        S : List LoadedModule
        S = standing ts

        x : (loaded_modules (t ∷ ts) ≡ loaded_modules ts ++ []) × (standing (t ∷ ts) ≡ others base S ++ [])
        x = lists_done d (Unload base) e

        m : Sublist S (loaded_modules (t ∷ ts))
        m = subst (Sublist S) (sym (x.0 ∙ nil_right (loaded_modules ts))) (standing-among ts)

        p : Performed (Unload base) at b
        p = did (Unload base) e

        bases : Pairs OtherBase S
        bases = other_bases (t ∷ ts) h S m

        registered : Registered S (lent_register b)
        registered = record { recorded = g.rest.register_matches.recorded; number = g.rest.register_matches.many }

        crs : Each (λ a. is_crs a.load_call ≡ true → base_of a.load_call ≢ base) S
        crs =
            among_each (λ a. is_crs a.load_call ≡ true → base_of a.load_call ≢ base) S (loaded_modules ts) (standing-among ts)
            (order (Unload base) e)

        above : (k : ℕ) → is_crs (image_at S k).load_call ≡ false → 0 < k
        above zero i = let z : ◌≡◌ {A = Bool} true false = sym c ∙ i in let y : ◌≡◌ {A = ℕ} 0 1 = cc in absurd (omega arith)
        above (suc k) i = omega arith

        came : loaded_modules (t ∷ ts) ≢ []
        came z = o (sym (x.0 ∙ nil_right (loaded_modules ts)) ∙ z)

        go : UnloadFinds base S (lent_register b).modules → Holding at (t ∷ ts) (after t)
        go (none q z) =
            quiet f (x.0 ∙ nil_right (loaded_modules ts)) (x.1 ∙ nil_right (others base S) ∙ q)
            (ap (λ c. (given c at b).left) e ∙ unload_unknown base at b p z) (some_came o c g)
        go (goes k r l y i q z rec) =
            let s : standing (t ∷ ts) ≡ lacking S k = x.1 ∙ nil_right (others base S) ∙ q in
            let u = above k i in
            some_came came
            (subst (λ T. is_crs (image_at T 0).load_call ≡ true) (sym s)
            (subst (λ a. is_crs a.load_call ≡ true) (sym (lacking-at S k no_module 0 ∙ ap (λ j. get_or S j no_module) (skip-low k 0 u))) c))
            (follow (Unload base) e (lacking S k) s
            (unload-call at b typed.1 S base k u l y p g (fine t ts mine h S m (good_end at b.window p.good)) r z))

  pub step : Gave Follows t → Typed t → own (t ∷ ts) ≡ t ∷ ts → Premises (t ∷ ts) → Holding at ts b → Holding at (t ∷ ts) (after t)
  unfolding Each Harmless
  step f typed mine h g = go (done t) refl
    where
      call : done t ≡ true → (c : Call) → t.call ≡ c → Holding at (t ∷ ts) (after t)
      call d (Initialize base size) e = initialize-step f typed mine h d base size e g
      call d (Load l auto level) e = load_step f typed mine h d l auto level e g
      call d (Unload base) e = unload-step f typed mine h d base e g

      go : (x : Bool) → done t ≡ x → Holding at (t ∷ ts) (after t)
      go true d = call d t.call refl
      go false d = let l = lists_refused d in quiet f l.0 l.1 (h.harmless.0 d) g
