-- A turn that gives 3 or 4 has changed nothing: no call behind the two tests gives them.
use Rattle.std.specs.Prelude.{ℕ, ◌≤◌, ◌≡◌, refl, List, Bool, true, false, not, length, eqb, Option, Some, None, Ok, Err}
use Rattle.std.proofs.Common.{sym, ap, ◌∙◌}
use native.Mathlib.Omega.{arith}
use Rattle.window.specs.Memory.{good_window}
use Rattle.window.specs.Access.{Prog}
use Rattle.register.specs.Module.{Module, Register}
use Rattle.register.specs.Decode.{is_register}
use Rattle.linker_spec.specs.declared.call.Call.{Call}
use Rattle.linker_spec.specs.declared.call.Call.TheVariants.{Initialize, Load, Unload}
use Rattle.linker_spec.specs.declared.rebase.LoadArguments.{LoadArguments}
use Rattle.linker_spec.specs.Refusal.{Rebased}
use Rattle.linker_spec.specs.Calls as calls
use Rattle.linker_spec.specs.Calls.{Answer, number, fits, add_record, initialized, linked, FirstWithBase, unknown, stands, first_with_base, leave}
use Rattle.linker_spec.specs.Outcome.{Buffers, outcome_of}
use Rattle.linker_spec.specs.Refusals.{lent_register}
use Rattle.linker_spec.proofs.Refusals.{answers}
use Rattle.linker_spec.specs.AnyResult.{AnyResult, gives_run, gives_then, gives_if}
use Rattle.linker_spec.specs.declared.refusal.RebaseError.{RebaseError}
use Rattle.history.specs.Sessions.{given}
use Rattle.history.specs.Windows.{program, given-program}
use Rattle.desk_spec.specs.declared.command.Command.{Command}
use Rattle.desk_spec.specs.declared.command.Command.TheVariants.{Elsewhere, Acknowledged, Unknown}
use Rattle.desk_spec.specs.Desk.{place_at, oldest}
use Rattle.desk_spec.specs.Bytes.{desk_of}
use Rattle.desk_spec.specs.Command.{id_at, command_at}
use Rattle.desk_spec.specs.Outcome.{answered, handle_command, handle, idle, turn_at, serve, turn_outcome}
use Rattle.desk_order.specs.Refusals.{keeps_3, keeps_4}

-- neither 3 nor 4
abbrev OwnNumber : ℕ → Type 0
OwnNumber n = 3 ≤ n → n ≤ 4 → ⊥

abbrev OwnAnswer : Answer → Type 0
OwnAnswer a = OwnNumber (number a)

enter_own
    : (records names : ℕ) (r : Register) (base size : ℕ) (auto : Bool) (next : Module → Prog Answer) → ((m : Module) → AnyResult OwnAnswer (next m))
    → (x : Rebased) → AnyResult OwnAnswer (add_record records names r base size auto next x)
unfolding add_record AnyResult number
enter_own records names r base size auto next h (Err RebaseError.NotACro) = omega arith
enter_own records names r base size auto next h (Err RebaseError.BadSegment) = omega arith
enter_own records names r base size auto next h (Ok _) =
    gives_then OwnAnswer _ _ (λ _. gives_then OwnAnswer _ _ (λ m. gives_if OwnAnswer (fits records names r m) _ _ (h m) (omega arith)))

initialize-own : (base size records names : ℕ) (r : Register) → AnyResult OwnAnswer (calls.initialize base size records names r)
unfolding calls.initialize initialized AnyResult number
initialize-own base size records names r =
    gives_then OwnAnswer _ _
    (enter_own records names r base size true _ (λ m. gives_then OwnAnswer _ _ (λ _. gives_then OwnAnswer _ _ (λ _. omega arith))))

load-own : (l : LoadArguments) (auto : Bool) (level records names : ℕ) (r : Register) → AnyResult OwnAnswer (calls.load l auto level records names r)
unfolding calls.load linked AnyResult number
load-own l auto level records names r =
    gives_then OwnAnswer _ _
    (enter_own records names r l.base l.size auto _
    (λ m. gives_then OwnAnswer _ _
    (λ _. gives_then OwnAnswer _ _
    (λ _. gives_then OwnAnswer _ _ (λ _. gives_then OwnAnswer _ _ (λ _. gives_then OwnAnswer _ _ (λ _. omega arith)))))))

leave_own : (r : Register) (base : ℕ) (f : FirstWithBase) → AnyResult OwnAnswer (leave r base f)
unfolding leave AnyResult number
leave_own r base unknown = omega arith
leave_own r base (stands m k) =
    gives_then OwnAnswer _ _ (λ _. gives_then OwnAnswer _ _ (λ _. gives_then OwnAnswer _ _ (λ _. omega arith)))

program-own : (c : Call) (records names : ℕ) (r : Register) → AnyResult OwnAnswer (program c records names r)
unfolding program calls.unload
program-own (Initialize base size) records names r = initialize-own base size records names r
program-own (Load l auto level) records names r = load-own l (not (eqb auto 0)) level records names r
program-own (Unload base) records names r = leave_own r base (first_with_base base r.modules 0)

module _ (at : ℕ) (b : Buffers) (good : good_window at b.window ≡ true) (valid : is_register b.records b.names b.missing ≡ true) where
  given-own : (c : Call) → OwnNumber (given c at b).number
  unfolding outcome_of
  given-own c =
      let p = program c (length b.records) (length b.names) (lent_register b) in
      rw (given-program c at b, answers (program c) at b good valid refl)
      (gives_run OwnAnswer at p b.window (program-own c (length b.records) (length b.names) (lent_register b)))

  command_own : (c : Command) (id p : ℕ) → OwnNumber (handle_command c id at p b).number
  unfolding handle_command answered
  command_own (Command.Call c) id p = given-own c
  command_own Elsewhere id p = omega arith
  command_own Acknowledged id p = omega arith
  command_own Unknown id p = omega arith

  serve-own : (t : Option ℕ) (bytes : List ℕ) → OwnNumber (serve t at bytes b).did.number
  unfolding serve handle
  serve-own None bytes = omega arith
  serve-own (Some i) bytes =
      let p = oldest (place_at (desk_of bytes).places i) in
      command_own (command_at at b.window p) (id_at at b.window p) p

  turn-own : (bytes : List ℕ) → OwnNumber (turn_outcome at bytes b).did.number
  unfolding turn_outcome
  turn-own bytes = rw (good, valid) (serve-own (turn_at bytes) bytes)

module _ (at : ℕ) (bytes : List ℕ) (b : Buffers) where
  tested : (n : ℕ) → 3 ≤ n → n ≤ 4 → (turn_outcome at bytes b).did.number ≡ n → turn_outcome at bytes b ≡ idle n bytes b
  tested n l m e = go (good_window at b.window) refl (is_register b.records b.names b.missing) refl
    where
      go
          : (g : Bool) → good_window at b.window ≡ g → (r : Bool) → is_register b.records b.names b.missing ≡ r
          → turn_outcome at bytes b ≡ idle n bytes b
      go true good true valid = absurd (turn-own at b good valid bytes (rw e l) (rw e m))
      go true good false valid =
          let o = keeps_4 at b bytes good valid in
          let z : n ≡ 4 = sym e ∙ ap (λ t. t.did.number) o in
          rw z o
      go false good r valid =
          let o = keeps_3 at b bytes good in
          let z : n ≡ 3 = sym e ∙ ap (λ t. t.did.number) o in
          rw z o

  pub tested_3 : (turn_outcome at bytes b).did.number ≡ 3 → turn_outcome at bytes b ≡ idle 3 bytes b
  tested_3 = tested 3 (omega arith) (omega arith)

  pub tested_4 : (turn_outcome at bytes b).did.number ≡ 4 → turn_outcome at bytes b ≡ idle 4 bytes b
  tested_4 = tested 4 (omega arith) (omega arith)
