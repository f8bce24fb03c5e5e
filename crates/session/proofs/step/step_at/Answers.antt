use native.Mathlib.Nat.{add-zero}
use Rattle.session.specs.Head.{head_word}
use Rattle.session.specs.Steps.{step_word, step_at}
use Rattle.session.proofs.step.step_at.Goals as goal

pub returns : goal.returns
unfolding head_word step_word step_at
returns c = simp (
  add-zero,
  ← c.word.ensures,
  ← c.name_part-table.ensures,
  ← c.word-8.ensures,
  ← c.word-2.ensures,
  ← c.word-3.ensures,
  ← c.word-4.ensures,
  ← c.word-5.ensures,
  ← c.word-6.ensures,
  ← c.word-7.ensures,
  ← c.word-9.ensures,
  ← c.word-10.ensures,
) c.step_of.ensures
