-- A whole session: the file's bytes in, the text out. Document 01, "The session program".
use Rattle.std.specs.Prelude.{if◌then◌else◌, ℕ, zero, suc, ◌+◌, List, [], ◌++◌}
use Rattle.register.specs.Module.{Register}
use Rattle.linker_spec.specs.Outcome.{Buffers, Outcome}
use Rattle.linker_spec.specs.Refusals.{lent_register}
use Rattle.text.specs.Text.{bytes, decimal_of}
use Rattle.session.specs.Head.{step_count, window_address}
use Rattle.session.specs.Steps.{step_at}
use Rattle.session.specs.File.{is_session}
use Rattle.session.specs.Lines.{step_line}
use Rattle.session.specs.RegisterLines.Lines.{module_lines, missing_lines}
use Rattle.session.specs.Run.{start, step_outcome}

-- step k, on the bytes that the ones before it left
unfoldable pub outcome_at : List ℕ → ℕ → Buffers → Outcome
outcome_at file k b = step_outcome (step_at file k) (window_address file) b

-- "After the step count come step lines": those of n steps from step k on, counted from 1, and the bytes that they leave
unfoldable pub steps : List ℕ → ℕ → ℕ → Buffers → List ℕ × Buffers
steps file zero k b = ([], b)
steps file (suc n) k b =
    let o = outcome_at file k b in
    let rest = steps file n (k + 1) o.left in
    (step_line (k + 1) (step_at file k) o.number o.value ++ rest.0, rest.1)

-- then module lines, in load order, and the missing names
unfoldable pub register_lines : Register → List ℕ
register_lines r = module_lines r.modules ++ missing_lines r.missing

-- the step count and all lines; of a bad file "it prints `session bad` alone"
unfoldable pub session_text : List ℕ → List ℕ
session_text file =
    if is_session file
    then (let ran = steps file (step_count file) 0 (start file) in
    bytes "session " ++ decimal_of (step_count file) ++ bytes "\n" ++ ran.0 ++ register_lines (lent_register ran.1))
    else bytes "session bad\n"
