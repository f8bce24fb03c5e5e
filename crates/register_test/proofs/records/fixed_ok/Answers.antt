use borrow.Author.Tests.{le-leb, lt-leb}
use Rattle.register.specs.Words.{length-words}
use Rattle.register.specs.Check.{fixed_ok}
use Rattle.register_test.proofs.records.fixed_ok.Goals as goal

pub returns-then-bytes-lt8 : goal.returns-then-bytes-lt8
unfolding fixed_ok
returns-then-bytes-lt8 c = rw length-words (simp (lt-leb _ _ c.if-bytes-lt8.true))

pub returns-then-bytes-module_size : goal.returns-then-bytes-module_size
unfolding fixed_ok
returns-then-bytes-module_size c = simp (length-words, le-leb _ _ c.if-bytes-lt8.false, ← c.module_size.ensures, lt-leb _ _ c.if-bytes-module_size.true)

pub returns-then-word-gt1 : goal.returns-then-word-gt1
unfolding fixed_ok
returns-then-word-gt1 c = simp (
  length-words,
  le-leb _ _ c.if-bytes-lt8.false,
  ← c.module_size.ensures,
  le-leb _ _ c.if-bytes-module_size.false,
  ← c.word.ensures,
  lt-leb _ _ c.if-word-gt1.true,
)

pub returns-then-word-gt16 : goal.returns-then-word-gt16
unfolding fixed_ok
returns-then-word-gt16 c = simp (
  length-words,
  le-leb _ _ c.if-bytes-lt8.false,
  ← c.module_size.ensures,
  le-leb _ _ c.if-bytes-module_size.false,
  ← c.word.ensures,
  le-leb _ _ c.if-word-gt1.false,
  ← c.word-2.ensures,
  lt-leb _ _ c.if-word-gt16.true,
)

pub returns : goal.returns
unfolding fixed_ok
returns c = simp (
  length-words,
  le-leb _ _ c.if-bytes-lt8.false,
  ← c.module_size.ensures,
  le-leb _ _
      c.if-bytes-module_size.false,
  ← c.word.ensures,
  le-leb _ _ c.if-word-gt1.false,
  ← c.word-2.ensures,
  le-leb _ _
      c.if-word-gt16.false,
  ← c.word-3.ensures,
  ← c.word-4.ensures,
) c.name_ok.ensures
