-- The steps of a session, run through the three calls. Document 01, "The session program".
use Rattle.std.specs.Prelude.{ℕ, List, ◌≡◌, replicate, Option, Some, None}
use Rattle.register.specs.Words.{part}
use Rattle.linker_spec.specs.declared.call.Call.{Call}
use Rattle.linker_spec.specs.Outcome.{Buffers, Outcome}
use Rattle.linker_spec.specs.Valid.{Valid}
use Rattle.history.specs.Sessions.{given}
use Rattle.session.specs.Head.{window_length, window_offset}

-- "The register starts zeroed, records and names 16,384 bytes each."
unfoldable pub start : List ℕ → Buffers
start file =
    record {
      window = part file (window_offset file) (window_length file);
      records = replicate 16384 0;
      names = replicate 16384 0;
      missing = replicate 32896 0;
    }

-- what a step gives; in a session each step is a call
unfoldable pub step_outcome : Option Call → ℕ → Buffers → Outcome
step_outcome (Some c) at b = given c at b
step_outcome None at b = record { number = 0; value = 0; left = b }

-- what running a step promises: its outcome, and that a register stays one
abbrev pub StepPromise : Option Call → ℕ → Buffers → Outcome → Type 0
StepPromise step at b o = (o ≡ step_outcome step at b) × (Valid b → Valid o.left)
