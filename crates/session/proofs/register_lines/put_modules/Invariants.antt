-- The invariant: the modules that are left, their records, and their lines put where the loop stands.
use mathlib.Core.Path.{◌≡◌}
use Rattle.text.specs.Puts.{written}
use Rattle.session.proofs.register_lines.Laws.{ModulesLeft}
use Rattle.session.proofs.register_lines.put_modules.Given as goal

abbrev pub invariant-loop-k : goal.invariant-loop-k
invariant-loop-k l =
    (l.text.buffer.ghost_name ≡ l.initial.text.buffer.ghost_name)
    × ModulesLeft l.records l.names (written l.initial.text) l.place l._k (written l.text)
