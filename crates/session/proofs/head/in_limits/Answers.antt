use borrow.Author.Tests.{le-leb, lt-leb}
use Rattle.session.specs.Head.{head_word}
use Rattle.session.proofs.head.in_limits.Goals as goal

pub returns-then-file-lt20 : goal.returns-then-file-lt20
unfolding head_word
returns-then-file-lt20 c = simp (lt-leb 20 _ c.if-file-lt20.true)

pub returns-then-file-gt49152 : goal.returns-then-file-gt49152
unfolding head_word
returns-then-file-gt49152 c = simp (le-leb 20 _ c.if-file-lt20.false, lt-leb _ 49152 c.if-file-gt49152.true)

pub returns-then-word-gt64 : goal.returns-then-word-gt64
unfolding head_word
returns-then-word-gt64 c = simp (
  le-leb 20 _ c.if-file-lt20.false,
  le-leb _ 49152 c.if-file-gt49152.false,
  ← c.word.ensures,
  lt-leb _ 64 c.if-word-gt64.true,
)

pub returns : goal.returns
unfolding head_word
returns c = simp (
  le-leb 20 _ c.if-file-lt20.false,
  le-leb _ 49152 c.if-file-gt49152.false,
  ← c.word.ensures,
  le-leb _ 64 c.if-word-gt64.false,
  ← c.word-2.ensures,
)
