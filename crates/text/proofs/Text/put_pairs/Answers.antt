use mathlib.Core.Path.{ap, ◌∙◌}
use Rattle.text.specs.Text.{pairs_of, put}
use Rattle.text.proofs.Laws.{pair-more, pairs-done}
use Rattle.text.proofs.Text.put_pairs.Goals as goal

pub loop-byte-preserved : goal.loop-byte-preserved
loop-byte-preserved c =
    let l = c.loop-byte in (
      ap (put (pairs_of _)) c.put.ensures.text
          ∙ pair-more _ l.byte-index _ c.loop-byte-test.true c.from-b.ensures c.digit.ensures c.digit-in-loop-byte.ensures
          ∙ l.invariant.0,
      c.put.ensures.same ∙ l.invariant.1,
    )

pub returns : goal.returns
returns c = record { text = pairs-done _ _ c.loop-byte-test.false ∙ c.loop-byte.invariant.0; same = c.loop-byte.invariant.1 }
