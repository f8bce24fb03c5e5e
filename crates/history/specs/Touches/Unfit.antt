-- A call lent a window or a register that breaks its rule touches nothing: no call answers 3 or 4 of its own.
use Rattle.std.specs.Prelude.{if◌then◌else◌, ℕ, ◌≡◌, refl, Bool, true, false, not, ◌||◌, ◌&&◌, length, eqb, Ok, Err}
use Rattle.std.proofs.Common.{sym, ap, ◌∙◌}
use Rattle.window.specs.Memory.{good_window}
use Rattle.window.specs.Access.{Prog, run}
use Rattle.layout.specs.Header.{next_cro, previous_cro}
use Rattle.layout.specs.Segments.{set_field}
use Rattle.register.specs.Module.{Module, Register}
use Rattle.register.specs.Decode.{is_register}
use Rattle.register.specs.Change.{appended, without}
use Rattle.linker_spec.specs.declared.call.Call.{Call}
use Rattle.linker_spec.specs.declared.call.Call.TheVariants.{Initialize, Load, Unload}
use Rattle.linker_spec.specs.Refusal.{Rebased}
use Rattle.linker_spec.specs.Relocation.{reset_external_relocations}
use Rattle.linker_spec.specs.Exports.{read_module}
use Rattle.linker_spec.specs.Imports.{apply_import_named_symbols, apply_module_imports, apply_exports_to_loaded}
use Rattle.linker_spec.specs.Resets.{reset_importers}
use Rattle.linker_spec.specs.Fix.{fix}
use Rattle.linker_spec.specs.Unrebase.{unrebase}
use Rattle.linker_spec.specs.Calls as calls
use Rattle.linker_spec.specs.Calls.{Answer, number, rebase, rebase_static, fits, add_record, initialized, listed, linked, FirstWithBase, unknown, stands, first_with_base, unlisted, leave}
use Rattle.linker_spec.specs.AnyResult.{AnyResult, gives_run, gives_then, gives_if}
use Rattle.linker_spec.specs.Outcome.{Buffers, outcome_of, refusal_order, call_outcome}
use Rattle.linker_spec.specs.Refusals.{lent_register}
use Rattle.linker_spec.specs.Touches.{touch_in, counted, touches, touches_of}
use Rattle.linker_spec.specs.declared.refusal.Refusal.TheVariants.{BadWindow, NoRegister}
use Rattle.linker_spec.specs.declared.refusal.RebaseError.{RebaseError}
use Rattle.linker_spec.specs.Refusal.{refusal_number}
use Rattle.history.specs.Sessions.{CallRecord, unfit}
use Rattle.history.specs.Windows.{program, given-program}
use Rattle.history.specs.Steps.Asking.{true_false}
use Rattle.history.specs.Sessions.Answers.{program_of}
use Rattle.history.specs.Touches.Programs.{beginning, touches-program}

-- 3 or 4
abbrev refuses : ℕ → Bool
refuses n = eqb n (refusal_number BadWindow) || eqb n (refusal_number NoRegister)

abbrev Fit : Answer → Type 0
Fit a = refuses (number a) ≡ false

enter_fit
    : (records names : ℕ) (r : Register) (base size : ℕ) (auto : Bool) (next : Module → Prog Answer) → ((m : Module) → AnyResult Fit (next m))
    → (x : Rebased) → AnyResult Fit (add_record records names r base size auto next x)
unfolding add_record AnyResult number
enter_fit records names r base size auto next h (Err RebaseError.NotACro) = refl
enter_fit records names r base size auto next h (Err RebaseError.BadSegment) = refl
enter_fit records names r base size auto next h (Ok _) =
    gives_then Fit _ (reset_external_relocations base)
    (λ _. gives_then Fit _ (read_module base size auto) (λ m. gives_if Fit (fits records names r m) _ _ (h m) refl))

leave-fit : (r : Register) (base : ℕ) (s : FirstWithBase) → AnyResult Fit (leave r base s)
unfolding leave AnyResult number
leave-fit r base unknown = refl
leave-fit r base (stands m k) =
    gives_then Fit _ (reset_importers m (without r.modules k))
    (λ _. gives_then Fit _ (unlisted r.crs base) (λ _. gives_then Fit _ (unrebase base) (λ _. refl)))

program-fit : (c : Call) (records names : ℕ) (r : Register) → AnyResult Fit (program c records names r)
unfolding program calls.initialize calls.load calls.unload initialized linked AnyResult number
program-fit (Initialize base size) records names r =
    gives_then Fit _ (rebase_static base)
    (enter_fit records names r base size true _
    (λ m. gives_then Fit _ (set_field base next_cro 0) (λ _. gives_then Fit _ (set_field base previous_cro 0) (λ _. refl))))
program-fit (Load l auto level) records names r =
    gives_then Fit _ (rebase l)
    (enter_fit records names r l.base l.size (not (eqb auto 0)) _
    (λ m. gives_then Fit _ (listed r.crs l.base (not (eqb auto 0)))
    (λ _. gives_then Fit _ (apply_import_named_symbols (appended r m).modules l.base r.missing)
    (λ _. gives_then Fit _ (apply_module_imports (appended r m).modules l.base)
    (λ _. gives_then Fit _ (apply_exports_to_loaded m r.modules) (λ _. gives_then Fit _ (fix l.base l.size level) (λ _. refl)))))))
program-fit (Unload base) records names r = leave-fit r base (first_with_base base r.modules 0)

-- so 3 and 4 come before the first access
unfit-given : (c : Call) (at : ℕ) (b : Buffers) → refuses (call_outcome (program c) at b).number ≡ true → touches (program c) (beginning c) at b ≡ (0, 0)
unfolding call_outcome touches outcome_of
unfit-given c at b u = go (good_window at b.window) (is_register b.records b.names b.missing) u
  where
    go
        : (g v : Bool)
        → refuses (refusal_order g v b (outcome_of b (run at (program_of c b) b.window))).number ≡ true
        → (if g && v then counted (run at (program_of c b) b.window).0 (touch_in at (beginning c) b.window) (touch_in at (program_of c b) b.window) else (0, 0))
        ≡ (0, 0)
    go true true u =
        let f : Fit (run at (program_of c b) b.window).0 =
        gives_run Fit at (program_of c b) b.window (program-fit c (length b.records) (length b.names) (lent_register b)) in
        absurd (true_false (sym u ∙ f))
    go true false u = refl
    go false v u = refl

pub unfit-inside : (t : CallRecord) → unfit t ≡ true → touches_of t.call t.at t.before ≡ (0, 0)
unfolding unfit
unfit-inside t u =
    touches-program t.call t.at t.before
    ∙ unfit-given t.call t.at t.before (sym (ap (λ o. refuses o.number) (given-program t.call t.at t.before)) ∙ u)
