use Rattle.std.proofs.Common.{◌≤◌, length}
use Rattle.writer_spec.specs.Description.{file_of}
use Rattle.writer.specs.Image.{between, Holds}
use Rattle.writer.proofs.image.copy.Given as goal

abbrev pub invariant-loop-i : goal.invariant-loop-i
invariant-loop-i l = (length l.fn.from ≤ length l.initial.buffer) × Holds l.initial.buffer l.buffer (between 0 l.i (file_of l.fn.from) (file_of l.initial.buffer))
