use mathlib.Core.Path.{refl, sym, ◌∙◌}
use native.Mathlib.Omega.{arith}
use borrow.Author.Tests.{eq-eqb, ne_eqb, le-leb, lt-leb}
use Rattle.register.specs.CheckIs.{counts, sizes}
use Rattle.register_test.proofs.Laws.{in_steps}
use Rattle.register_test.proofs.is_register.Goals as goal

pub returns-then-records-lt32 : goal.returns-then-records-lt32
returns-then-records-lt32 c = in_steps _ _ _ (λ i. (c.type_inv.missing i).fits) refl refl (rw (lt-leb _ _ c.if-records-lt32.true))

pub returns-then-not-counts_ok : goal.returns-then-not-counts_ok
returns-then-not-counts_ok c = in_steps _ _ _ (λ i. (c.type_inv.missing i).fits) refl refl
    (rw (le-leb _ _ c.if-records-lt32.false, ← c.counts_ok.ensures, c.if-not-counts_ok.true))

pub returns-then-not-sizes_ok : goal.returns-then-not-sizes_ok
returns-then-not-sizes_ok c = in_steps _ _ _ (λ i. (c.type_inv.missing i).fits)
    c.used_bytes-used.ensures c.word-named.ensures
    (rw (
      le-leb _ _ c.if-records-lt32.false,
      ← c.counts_ok.ensures,
      c.if-not-counts_ok.false,
      ← c.sizes_ok.ensures,
      c.if-not-sizes_ok.true,
    ))

pub returns-then-missing-ne32896 : goal.returns-then-missing-ne32896
returns-then-missing-ne32896 c = in_steps _ _ _ (λ i. (c.type_inv.missing i).fits)
    c.used_bytes-used.ensures c.word-named.ensures
    (rw (
      le-leb _ _ c.if-records-lt32.false,
      ← c.counts_ok.ensures,
      c.if-not-counts_ok.false,
      ← c.sizes_ok.ensures,
      c.if-not-sizes_ok.false,
      ne_eqb _ _ c.if-missing-ne32896.true,
    ))

pub contents_ok-requires : goal.contents_ok-requires
contents_ok-requires c = let n =
    counts _ (sym c.counts_ok.ensures
    ∙ c.if-not-counts_ok.false) in
    let s = sizes _ _ _ _ (sym c.sizes_ok.ensures ∙ c.if-not-sizes_ok.false) in
    (s.least, s.inside, s.named-inside, omega (arith, n.kept))

pub returns : goal.returns
returns c = in_steps _ _ _ (λ i. (c.type_inv.missing i).fits)
    c.used_bytes-used.ensures c.word-named.ensures
    (rw (
      le-leb _ _ c.if-records-lt32.false,
      ← c.counts_ok.ensures,
      c.if-not-counts_ok.false,
      ← c.sizes_ok.ensures,
      c.if-not-sizes_ok.false,
      eq-eqb _ _
          c.if-missing-ne32896.false,
    ) c.contents_ok.ensures)
