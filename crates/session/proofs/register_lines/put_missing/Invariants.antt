-- The invariant: the lines of the names that are left, put where the loop stands, give what all of them give.
use mathlib.Core.Path.{◌≡◌}
use lib.ListN.{drop}
use Rattle.text.specs.Text.{put}
use Rattle.text.specs.Puts.{written}
use Rattle.session.specs.RegisterLines.Lines.{name_lines}
use Rattle.session.proofs.register_lines.Laws.{missing_in}
use Rattle.session.proofs.register_lines.put_missing.Given as goal

abbrev pub invariant-loop-k : goal.invariant-loop-k
invariant-loop-k l =
    (l.text.buffer.ghost_name ≡ l.initial.text.buffer.ghost_name)
    × (put (name_lines (drop l.k (missing_in l.records l.missing))) (written l.text) ≡ put (name_lines (missing_in l.records l.missing)) (written l.initial.text))
