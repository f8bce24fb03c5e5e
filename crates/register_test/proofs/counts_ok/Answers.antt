use borrow.Author.Tests.{eq-eqb, ne_eqb, le-leb, lt-leb}
use Rattle.register.specs.Check.{counts_ok}
use Rattle.register_test.proofs.counts_ok.Goals as goal

pub returns-then-word-gt64 : goal.returns-then-word-gt64
unfolding counts_ok
returns-then-word-gt64 c = simp (← c.word.ensures, lt-leb _ 64 c.if-word-gt64.true)

pub returns-then-word-gt64-2 : goal.returns-then-word-gt64-2
unfolding counts_ok
returns-then-word-gt64-2 c = simp (
  ← c.word.ensures,
  le-leb _ 64 c.if-word-gt64.false,
  ← c.word-2.ensures,
  lt-leb _ 64
      c.if-word-gt64-2.true,
)

pub returns-then-word-ne0 : goal.returns-then-word-ne0
unfolding counts_ok
returns-then-word-ne0 c = simp (
  ← c.word.ensures,
  le-leb _ 64 c.if-word-gt64.false,
  ← c.word-2.ensures,
  le-leb _ 64 c.if-word-gt64-2.false,
  ← c.word-3.ensures,
  ne_eqb _ _ c.if-word-ne0.true,
)

pub returns-then-word-ne0-2 : goal.returns-then-word-ne0-2
unfolding counts_ok
returns-then-word-ne0-2 c = simp (
  ← c.word.ensures,
  le-leb _ 64
      c.if-word-gt64.false,
  ← c.word-2.ensures,
  le-leb _ 64
      c.if-word-gt64-2.false,
  ← c.word-3.ensures,
  eq-eqb _ _ c.if-word-ne0.false,
  ← c.word-4.ensures,
  ne_eqb _ _ c.if-word-ne0-2.true,
)

pub returns-then-known-eq1 : goal.returns-then-known-eq1
unfolding counts_ok
returns-then-known-eq1 c = simp (
  ← c.word.ensures,
  le-leb _ 64
      c.if-word-gt64.false,
  ← c.word-2.ensures,
  le-leb _ 64
      c.if-word-gt64-2.false,
  ← c.word-3.ensures,
  eq-eqb _ _
      c.if-word-ne0.false,
  ← c.word-4.ensures,
  eq-eqb _ _ c.if-word-ne0-2.false,
  ← c.word-known.ensures,
  eq-eqb _ _ c.if-known-eq1.true,
)

pub returns-then-known-ne0 : goal.returns-then-known-ne0
unfolding counts_ok
returns-then-known-ne0 c = simp (
  ← c.word.ensures,
  le-leb _ 64
      c.if-word-gt64.false,
  ← c.word-2.ensures,
  le-leb _ 64
      c.if-word-gt64-2.false,
  ← c.word-3.ensures,
  eq-eqb _ _ c.if-word-ne0.false,
  ← c.word-4.ensures,
  eq-eqb _ _
      c.if-word-ne0-2.false,
  ← c.word-known.ensures,
  ne_eqb _ _ c.if-known-eq1.false,
  ne_eqb _ _ c.if-known-ne0.true,
)

pub returns : goal.returns
unfolding counts_ok
returns c = simp (
  ← c.word.ensures,
  le-leb _ 64
      c.if-word-gt64.false,
  ← c.word-2.ensures,
  le-leb _ 64
      c.if-word-gt64-2.false,
  ← c.word-3.ensures,
  eq-eqb _ _
      c.if-word-ne0.false,
  ← c.word-4.ensures,
  eq-eqb _ _
      c.if-word-ne0-2.false,
  ← c.word-known.ensures,
  ne_eqb _ _ c.if-known-eq1.false,
  eq-eqb _ _
      c.if-known-ne0.false,
  ← c.word-5.ensures,
)
