-- A call that gives 0: its window and register were good, and what it leaves is what its program answered.
use Rattle.std.specs.Prelude.{ℕ, ◌*◌, ◌^◌, ◌≤◌, ◌≡◌, refl, List, Bool, true, false, not, length, eqb, Ok, Err}
use Rattle.std.proofs.Common.{sym, ap, ◌∙◌, arith, eqb-true}
use Rattle.window.specs.Memory.{good_window}
use Rattle.window.specs.Access.{Prog, run}
use Rattle.layout.specs.Header.{next_cro, previous_cro}
use Rattle.layout.specs.Segments.{set_field}
use Rattle.register.specs.Module.{Module, Register, proper}
use Rattle.register.specs.Encode.{encode_words}
use Rattle.register.specs.Decode.{register_of, is_register}
use Rattle.register.specs.Proper.{proper-parts}
use Rattle.register.specs.CheckIs.{read_back_lem}
use Rattle.register.specs.Slots.{length-slots}
use Rattle.register.specs.Change.{appended, removed, without}
use Rattle.register.specs.Buffers.{Below, encode_records, encode_names, encode_missing, encode_encodes}
use Rattle.linker_spec.specs.declared.rebase.LoadArguments.{LoadArguments}
use Rattle.linker_spec.specs.Refusal.{Rebased}
use Rattle.linker_spec.specs.Relocation.{reset_external_relocations}
use Rattle.linker_spec.specs.Exports.{read_module}
use Rattle.linker_spec.specs.Imports.{apply_import_named_symbols, apply_module_imports, apply_exports_to_loaded}
use Rattle.linker_spec.specs.Resets.{reset_importers}
use Rattle.linker_spec.specs.Fix.{fix}
use Rattle.linker_spec.specs.Unrebase.{unrebase}
use Rattle.linker_spec.specs.Calls as calls
use Rattle.linker_spec.specs.Calls.{Answer, NotLoaded, Done, number, rebase, rebase_static, fits, add_record, initialized, listed, linked, unknown, stands, first_with_base, unlisted, leave, Refused}
use Rattle.linker_spec.specs.Outcome.{Buffers, register_after, outcome_of, call_outcome}
use Rattle.linker_spec.specs.Refusals.{lent_register}
use Rattle.linker_spec.specs.AnyResult.{AnyResult, gives_run, gives_then, gives_if}
use Rattle.linker_spec.specs.Valid.{Valid}
use Rattle.linker_spec.specs.declared.call.Call.{Call}
use Rattle.linker_spec.specs.declared.call.Call.TheVariants.{Initialize, Load, Unload}
use Rattle.linker_spec.specs.declared.refusal.RebaseError.{RebaseError}
use Rattle.linker_spec.specs.Refusal.{refusal-not-0}
use Rattle.history.specs.Sessions.{given, CallRecord, expected, done}
use Rattle.history.specs.Windows.{program, given-program}

abbrev pub program_of : Call → Buffers → Prog Answer
program_of c b = program c (length b.records) (length b.names) (lent_register b)

-- it was not refused for its window or its register, and its answer says what it leaves
pub record Performed (c : Call) (at : ℕ) (b : Buffers) : Type 0 where
  pub good : good_window at b.window ≡ true
  pub valid : Valid b
  pub settled : given c at b ≡ outcome_of b (run at (program_of c b) b.window)
  pub zero : number (run at (program_of c b) b.window).0 ≡ 0

-- 0 comes from a good window and register
pub performed : (c : Call) (at : ℕ) (b : Buffers) → (given c at b).number ≡ 0 → Performed c at b
unfolding call_outcome outcome_of number
performed c at b z =
    go (good_window at b.window) refl (is_register b.records b.names b.missing) refl (sym (ap (λ o. o.number) (given-program c at b)) ∙ z)
    (given-program c at b)
  where
    x : Answer × List ℕ
    x = run at (program_of c b) b.window

    go
        : (g : Bool) → good_window at b.window ≡ g → (v : Bool) → is_register b.records b.names b.missing ≡ v
        → (call_outcome (program c) at b).number ≡ 0 → given c at b ≡ call_outcome (program c) at b → Performed c at b
    go true e true f n w =
        let s : call_outcome (program c) at b ≡ outcome_of b x = rw (e, f) in
        record { good = e; valid = f; settled = w ∙ s; zero = sym (ap (λ o. o.number) s) ∙ n }
    go true e false f n w = let n₁ : ◌≡◌ {A = ℕ} 4 0 = rw (e, f) at n in absurd (omega arith)
    go false e v f n w = let n₁ : ◌≡◌ {A = ℕ} 3 0 = rw e at n in absurd (omega arith)

pub done-zero : (t : CallRecord) → done t ≡ true → (expected t).number ≡ 0
unfolding done
done-zero t e = eqb-true (expected t).number 0 e

-- the two answers of number 0
pub data Finished (a : Answer) : Type 0 where
  kept : a ≡ NotLoaded → Finished a
  did : (v : ℕ) (s : Register) → a ≡ Done v s → Finished a

pub finished : (a : Answer) → number a ≡ 0 → Finished a
unfolding number
finished (Refused refusal) e = absurd (refusal-not-0 refusal e)
finished NotLoaded e = kept refl
finished (Done v s) e = did v s refl

-- a call that brings a module never answers that nothing was to be done
abbrev NotKept : Answer → Type 0
NotKept (Refused refusal) = Unit {0}
NotKept NotLoaded = ⊥
NotKept (Done v s) = Unit {0}

enter-not
    : (records names : ℕ) (r : Register) (base size : ℕ) (auto : Bool) (next : Module → Prog Answer) → ((m : Module) → AnyResult NotKept (next m))
    → (x : Rebased) → AnyResult NotKept (add_record records names r base size auto next x)
unfolding add_record AnyResult
enter-not records names r base size auto next h (Err RebaseError.NotACro) = tt
enter-not records names r base size auto next h (Err RebaseError.BadSegment) = tt
enter-not records names r base size auto next h (Ok _) =
    gives_then NotKept _ (reset_external_relocations base)
    (λ _. gives_then NotKept _ (read_module base size auto) (λ m. gives_if NotKept (fits records names r m) _ _ (h m) tt))

initialize-not : (base size records names : ℕ) (r : Register) → AnyResult NotKept (calls.initialize base size records names r)
unfolding calls.initialize initialized AnyResult
initialize-not base size records names r =
    gives_then NotKept _ (rebase_static base)
    (enter-not records names r base size true _
    (λ m. gives_then NotKept _ (set_field base next_cro 0) (λ _. gives_then NotKept _ (set_field base previous_cro 0) (λ _. tt))))

load-not : (l : LoadArguments) (auto : Bool) (level records names : ℕ) (r : Register) → AnyResult NotKept (calls.load l auto level records names r)
unfolding calls.load linked AnyResult
load-not l auto level records names r =
    gives_then NotKept _ (rebase l)
    (enter-not records names r l.base l.size auto _
    (λ m. gives_then NotKept _ (listed r.crs l.base auto)
    (λ _. gives_then NotKept _ (apply_import_named_symbols (appended r m).modules l.base r.missing)
    (λ _. gives_then NotKept _ (apply_module_imports (appended r m).modules l.base)
    (λ _. gives_then NotKept _ (apply_exports_to_loaded m r.modules) (λ _. gives_then NotKept _ (fix l.base l.size level) (λ _. tt)))))))

-- a call that was done, with the register of its answer
pub record CallDone (c : Call) (at : ℕ) (b : Buffers) (v : ℕ) (s : Register) : Type 0 where
  pub answered : (run at (program_of c b) b.window).0 ≡ Done v s
  pub value : (given c at b).value ≡ v
  pub window : (given c at b).left.window ≡ (run at (program_of c b) b.window).1
  pub records : (given c at b).left.records ≡ encode_records (length b.records) s
  pub names : (given c at b).left.names ≡ encode_names (length b.names) s
  pub missing : (given c at b).left.missing ≡ encode_missing s

pub left-done
    : (c : Call) (at : ℕ) (b : Buffers) → Performed c at b → (v : ℕ) (s : Register) → (run at (program_of c b) b.window).0 ≡ Done v s → CallDone c at b v s
unfolding outcome_of register_after calls.value
left-done c at b p v s e =
    let w = (run at (program_of c b) b.window).1 in
    let q : given c at b ≡ outcome_of b (Done v s, w) = p.settled ∙ ap (λ a. outcome_of b (a, w)) e in
    record {
      answered = e;
      value = ap (λ o. o.value) q;
      window = ap (λ o. o.left.window) q;
      records = ap (λ o. o.left.records) q;
      names = ap (λ o. o.left.names) q;
      missing = ap (λ o. o.left.missing) q;
    }

not-kept : (a : Answer) → NotKept a → number a ≡ 0 → (v : ℕ) × (s : Register) × (a ≡ Done v s)
unfolding number
not-kept (Refused refusal) k e = absurd (refusal-not-0 refusal e)
not-kept NotLoaded k e = absurd k
not-kept (Done v s) k e = (v, s, refl)

-- `initialize` and `load`
pub brings-initialize
    : (base size at : ℕ) (b : Buffers) → Performed (Initialize base size) at b
    → (v : ℕ) × (s : Register) × CallDone (Initialize base size) at b v s
unfolding program
brings-initialize base size at b p =
    let r = lent_register b in
    let k =
    gives_run NotKept at (calls.initialize base size (length b.records) (length b.names) r) b.window
    (initialize-not base size (length b.records) (length b.names) r) in
    let g = not-kept _ k p.zero in
    (g.0, g.1, left-done (Initialize base size) at b p g.0 g.1 g.2)

pub brings-load
    : (l : LoadArguments) (auto level at : ℕ) (b : Buffers) → Performed (Load l auto level) at b
    → (v : ℕ) × (s : Register) × CallDone (Load l auto level) at b v s
unfolding program
brings-load l auto level at b p =
    let r = lent_register b in
    let k =
    gives_run NotKept at (calls.load l (not (eqb auto 0)) level (length b.records) (length b.names) r) b.window
    (load-not l (not (eqb auto 0)) level (length b.records) (length b.names) r) in
    let g = not-kept _ k p.zero in
    (g.0, g.1, left-done (Load l auto level) at b p g.0 g.1 g.2)

-- `unload`: an unknown base leaves all as it was, a known one goes from the register
pub unload_unknown : (base at : ℕ) (b : Buffers) → Performed (Unload base) at b → first_with_base base (lent_register b).modules 0 ≡ unknown
    → (given (Unload base) at b).left ≡ b
unfolding program calls.unload leave run outcome_of register_after
unload_unknown base at b p e =
    let q : run at (program_of (Unload base) b) b.window ≡ (NotLoaded, b.window) = rw e refl in
    ap (λ o. o.left) (p.settled ∙ ap (outcome_of b) q)

pub unload-known
    : (base at : ℕ) (b : Buffers) → Performed (Unload base) at b → (m : Module) (k : ℕ) → first_with_base base (lent_register b).modules 0 ≡ stands m k
    → CallDone (Unload base) at b 1 (removed (lent_register b) k)
unfolding program calls.unload leave AnyResult
unload-known base at b p m k e =
    let r = lent_register b in
    let a : (run at (calls.unload base r) b.window).0 ≡ Done 1 (removed r k) =
    gives_run (λ x. x ≡ Done 1 (removed r k)) at (calls.unload base r) b.window
    (rw e
    (gives_then (λ x. x ≡ Done 1 (removed r k)) _ (reset_importers m (without r.modules k))
    (λ _. gives_then (λ x. x ≡ Done 1 (removed r k)) _ (unlisted r.crs base)
    (λ _. gives_then (λ x. x ≡ Done 1 (removed r k)) _ (unrebase base) (λ _. refl))))) in
    left-done (Unload base) at b p 1 (removed r k) a

-- the bytes of a proper register that fits are read back
pub encoded-back
    : (records names : ℕ) (s : Register) → proper s ≡ true → 4 * length (encode_words s) ≤ records → Below (2 ^ 32) (encode_words s)
    → register_of (encode_records records s) (encode_names names s) (encode_missing s) ≡ s
encoded-back records names s p h w =
    let a = proper-parts s p in
    read_back_lem (encode_records records s) (encode_names names s) (encode_missing s) s p
    (encode_encodes records names s h w (omega (arith, a.few, length-slots s.missing a.kept)))
