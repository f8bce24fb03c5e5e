use mathlib.Core.Path.{◌∙◌}
use native.Mathlib.Omega.{arith}
use Rattle.text.specs.Text.{bytes}
use Rattle.session.proofs.register_lines.Laws.{any-names, slot-fits, missing_line, names_more, names-done}
use Rattle.session.proofs.register_lines.put_missing.Goals as goal

pub put_name-requires : goal.put_name-requires
put_name-requires c = slot-fits _ _ c.missing_name.ensures

pub loop-k-preserved : goal.loop-k-preserved
unfolding bytes
loop-k-preserved c =
    let l = c.loop-k in
    let m = c.requires in
    let line = c.put-in-loop-k.ensures in (
      line.same ∙ c.put_name.ensures.same ∙ l.invariant.0,
      names_more _ m.0 _ m.1 l.k _ (omega (arith, c.missing_count-count.ensures)) c.missing_name.ensures
          c.put_name.ensures.text line.text
          ∙ l.invariant.1,
    )

pub returns : goal.returns
unfolding bytes
returns c names =
    let l = c.loop-k in
    let m = c.requires in
    record {
      text =
          rw (any-names _ names _)
          (missing_line _ m.0 _ m.1 _ c.missing_count-count.ensures c.decimal_after.ensures.text c.put.ensures.text
          (names-done _ m.0 _ m.1 l.k _ (omega arith) ∙ l.invariant.1));
      same = l.invariant.0 ∙ c.put.ensures.same ∙ c.decimal_after.ensures.same;
    }
