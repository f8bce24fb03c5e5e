-- A call over a lent trace, its tests passed: what it leaves.
use Rattle.std.specs.Prelude.{ℕ, List, length}
use Rattle.window.specs.Access.{Prog}
use Rattle.window.specs.Trace.{run_t}
use Rattle.register.specs.Module.{Register}
use Rattle.linker_spec.specs.Calls.{Answer}
use Rattle.linker_spec.specs.Outcome.{Buffers, Outcome, outcome_of}
use Rattle.linker_spec.specs.Touches.{counted}
use Rattle.linker_spec.specs.Refusals.{lent_register}

-- the call as its buffers' lengths and its register make it
abbrev pub call_of : (ℕ → ℕ → Register → Prog Answer) → Buffers → Prog Answer
call_of call b = call (length b.records) (length b.names) (lent_register b)

-- the outcome, and the trace that counts with it
unfoldable pub traced : (ℕ → ℕ → Register → Prog Answer) → Prog (Unit {0}) → ℕ → Buffers → List ℕ → Outcome × List ℕ
traced call beginning at b t =
    let x = run_t at (call_of call b) (b.window, t) in
    (outcome_of b (x.0, x.1.0), counted x.0 (run_t at beginning (b.window, t)).1.1 x.1.1)
