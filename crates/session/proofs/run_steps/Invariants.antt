-- The invariant: the reader is one of the file, and the steps from the one that it stands at, run on the bytes as they are, give what all of them give.
use Rattle.std.proofs.Common.{◌≡◌, ◌-◌}
use Rattle.linker_spec.specs.Outcome.{buffers}
use Rattle.text.specs.Puts.{written}
use Rattle.session.specs.Ahead.{StepsLeft}
use Rattle.session.proofs.run_steps.Given as goal

abbrev pub invariant-loop-r : goal.invariant-loop-r
invariant-loop-r l =
    (l.r.file.now ≡ l.file)
    × (l.text.buffer.ghost_name ≡ l.initial.text.buffer.ghost_name)
    × StepsLeft l.file l.count l.r.next
    (written l.initial.text, buffers l.initial.window l.initial.records l.initial.names l.initial.missing)
    (written l.text, buffers l.window l.records l.names l.missing)

abbrev pub decreases-loop-r : goal.decreases-loop-r
decreases-loop-r l = l.count - l.r.next
