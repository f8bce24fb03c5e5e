-- A call of a session: what it leaves at rest, in the bytes that it gave, and in those that the next call gets.
use Rattle.std.specs.Prelude.{ℕ, zero, suc, ◌^◌, ◌<◌, ◌≡◌, refl, ◌≢◌, List, [], ◌∷◌, ◌++◌, true, not, eqb}
use Rattle.std.proofs.Common.{sym, subst, inl, inr, arith}
use Rattle.std.proofs.Math.ListN.{length}
use Rattle.window.specs.Memory.{byte_at}
use Rattle.window.specs.Access.{run}
use Rattle.register.specs.Module.{Register, proper}
use Rattle.register.specs.Encode.{encode_words}
use Rattle.register.specs.CheckIs.{register-parts}
use Rattle.register.specs.Change.{removed}
use Rattle.register.specs.Buffers.{Below}
use Rattle.register.specs.Append.Stands.{encoded_small}
use Rattle.linker_spec.specs.declared.rebase.LoadArguments.{LoadArguments}
use Rattle.linker_spec.specs.Calls as calls
use Rattle.linker_spec.specs.Calls.{Done, stands, first_with_base}
use Rattle.linker_spec.specs.Outcome.{Buffers}
use Rattle.linker_spec.specs.Refusals.{lent_register}
use Rattle.linker_spec.specs.Valid.{Valid, AreBytes}
use Rattle.register.specs.Module.{Module}
use Rattle.history.specs.LoadedModule.{initialized, loaded, LoadedModule, base_of, Area}
use Rattle.linker_spec.specs.declared.call.Call.{Call}
use Rattle.linker_spec.specs.declared.call.Call.TheVariants.{Initialize, Load, Unload}
use Rattle.history.specs.Sessions.{given, CallRecord, after, expected, SameBytes, Areas, loaded_modules, Between}
use Rattle.history.specs.Outcomes.{Gave, Follows}
use Rattle.history.specs.Windows.{program}
use Rattle.history.specs.Sessions.Lists.{lacking, Sublist, nothing, keeps, drops}
use Rattle.history.specs.Sessions.Unique.{image_at}
use Rattle.history.specs.Sessions.Answers.{program_of, Performed, CallDone, brings-initialize, brings-load, unload-known}
use Rattle.history.specs.Theorem.Invariant.{Resting, resting_agree}
use Rattle.history.specs.Theorem.Calls.{Fine, unload_rests, load_rests, initialize_rests}
use Rattle.history.specs.Theorem.Back.{Back, Backs, initialize-back, load-back, unload-back}

-- at rest in these bytes: the window's and the register that is read from them
abbrev pub RestingIn : ℕ → List LoadedModule → Buffers → Type 0
RestingIn at S b = Resting S (lent_register b) (byte_at at b.window)

-- the same register bytes say the same
pub same-lent : (b c : Buffers) → SameBytes b c → lent_register b ≡ lent_register c
same-lent b c e = rw (e.0, e.1, e.2) refl

-- what the definition leaves, what the call gave
pub follows_rests
    : (t : CallRecord) (S : List LoadedModule) → Gave Follows t → RestingIn t.at S (expected t).left → RestingIn t.at S (after t)
follows_rests t S f h = subst (λ o. RestingIn t.at S o.left) (sym f) h

-- those that stand are among those that came
among_areas : (S A : List LoadedModule) → Sublist S A → (k q : ℕ) → k < length S → Area (image_at S k) q → Areas A q
unfolding Areas
among_areas S A nothing k q l a = absurd (omega arith)
among_areas S A (keeps x us vs h) zero q l a = inl a
among_areas S A (keeps x us vs h) (suc k) q l a = inr (among_areas us vs h k q (omega arith) a)
among_areas S A (drops x us vs h) k q l a = inr (among_areas us vs h k q l a)

-- what the next call gets
pub between_rests
    : (at : ℕ) (ts : List CallRecord) (left got : Buffers) (S : List LoadedModule) → Sublist S (loaded_modules ts) → Between at ts left got → RestingIn at S left
    → RestingIn at S got
between_rests at ts left got S m e h =
    subst (λ r. Resting S r (byte_at at got.window)) (same-lent left got e.register)
    (resting_agree S (λ k l q a. e.areas_kept q (among_areas S (loaded_modules ts) m k q l a)) h)

-- the answer's register, read from the bytes left
left_rests
    : (c : Call) (at : ℕ) (b : Buffers) (v : ℕ) (s : Register) (S : List LoadedModule) → CallDone c at b v s → Back (length b.records) (length b.names) s
    → Resting S s (byte_at at (run at (program_of c b) b.window).1) → RestingIn at S (given c at b).left
left_rests c at b v s S l e h =
    rw (l.records, l.names, l.missing, l.window)
    (subst (λ r. Resting S r (byte_at at (run at (program_of c b) b.window).1)) (sym e) h)

module _ (at : ℕ) (b : Buffers) (bytes : AreBytes b) where
  abbrev parts : Valid b → (proper (lent_register b) ≡ true) × Below (2 ^ 32) (encode_words (lent_register b))
  parts v =
      let p = register-parts b.records b.names b.missing v in
      (p.0, encoded_small b.records b.names b.missing (lent_register b) bytes.1 p.1)

  -- `initialize` was done
  pub initialize-call
      : (base size : ℕ) → base < 2 ^ 32 → size < 2 ^ 32 → Performed (Initialize base size) at b → (lent_register b).modules ≡ []
      → Fine at (length b.window) (record { load_call = initialized base size; bytes = byte_at at b.window } ∷ [])
      → RestingIn at (record { load_call = initialized base size; bytes = byte_at at b.window } ∷ []) (given (Initialize base size) at b).left
  unfolding program
  initialize-call base size hb hs p none_yet f =
      let g = brings-initialize base size at b p in
      let x = parts p.valid in
      let n = length b.records in
      let m = length b.names in
      left_rests (Initialize base size) at b g.0 g.1 _ g.2
      (subst (Backs n m) g.2.answered (initialize-back at n m (lent_register b) x.0 x.1 base size hb hs b.window bytes.0))
      (initialize_rests at b.window (lent_register b) none_yet base size f bytes.0 n m g.0 g.1 g.2.answered)

  -- `load` was done
  pub load-call
      : (S : List LoadedModule) (l : LoadArguments) (auto level : ℕ) → l.base < 2 ^ 32 → l.size < 2 ^ 32 → l.data_segment < 2 ^ 32 → l.bss_segment < 2 ^ 32
      → not (eqb auto 0) ≡ true → level ≢ 2 → level ≢ 3 → Performed (Load l auto level) at b → RestingIn at S b
      → Fine at (length b.window) (S ++ (record { load_call = loaded l (not (eqb auto 0)) level; bytes = byte_at at b.window } ∷ []))
      → RestingIn at (S ++ (record { load_call = loaded l (not (eqb auto 0)) level; bytes = byte_at at b.window } ∷ [])) (given (Load l auto level) at b).left
  unfolding program
  load-call S l auto level hb hs hd hx e c d p h f =
      let g = brings-load l auto level at b p in
      let x = parts p.valid in
      let n = length b.records in
      let m = length b.names in
      let q = load_rests at b.window S (lent_register b) h l (not (eqb auto 0)) level f bytes.0 hd hx c d n m g.0 g.1 in
      left_rests (Load l auto level) at b g.0 g.1 _ g.2
      (subst (Backs n m) g.2.answered
      (load-back at n m (lent_register b) x.0 x.1 l (not (eqb auto 0)) level hb hs b.window bytes.0))
      (subst
      (λ y.
      (run at (calls.load l y level n m (lent_register b)) b.window).0 ≡ Done g.0 g.1
      → Resting (S ++ (record { load_call = loaded l (not (eqb auto 0)) level; bytes = byte_at at b.window } ∷ [])) g.1
      (byte_at at (run at (calls.load l y level n m (lent_register b)) b.window).1))
      (sym e) q g.2.answered)

  -- `unload` of number d was done
  pub unload-call
      : (S : List LoadedModule) (base d : ℕ) → 0 < d → d < length S → base_of (image_at S d).load_call ≡ base → Performed (Unload base) at b
      → RestingIn at S b → Fine at (length b.window) S → (r : Module) → first_with_base base (lent_register b).modules 0 ≡ stands r d
      → RestingIn at (lacking S d) (given (Unload base) at b).left
  unfolding program
  unload-call S base d above below e p h f r z =
      let g = unload-known base at b p r d z in
      left_rests (Unload base) at b 1 (removed (lent_register b) d) (lacking S d) g
      (unload-back b.records b.names b.missing p.valid bytes.1 d (rw h.rest.register_matches.many below))
      (subst (λ y. Resting (lacking S d) (removed (lent_register b) d) (byte_at at (run at (calls.unload y (lent_register b)) b.window).1)) e
      (unload_rests at b.window S (lent_register b) h f d above below))
