use Rattle.std.proofs.Common.{◌+◌, ap, ◌∙◌}
use Rattle.writer_spec.specs.Description.{file_of}
use Rattle.writer.proofs.packed.Laws.{segments_left, segment-left_out, segment-passed, segment-refused, segments_end}
use Rattle.writer.proofs.packed.segments_packed.Goals as goal
use Rattle.writer.proofs.packed.segments_packed.Goals.{then-in_file+in_ok-pos, else-in_file}

pub returns-in_err-pos : goal.returns-in_err-pos
returns-in_err-pos c =
    let l = c.loop-i in
    c.from_residual.ensures
    ∙ (segment-refused (file_of c.args.bytes.now) _ l.i l.pos c.loop-i-test.true c.segment-s.ensures c.in_file.ensures c.if-in_file.true
    c.block_after.ensures c.in_err-pos.was ∙ l.invariant)

pub loop-i-preserved : goal.loop-i-preserved
loop-i-preserved c =
    let F = file_of c.args.bytes.now in
    let l = c.loop-i in
    elim c.if-in_file.branch [
      | then-in_file+in_ok-pos w ↦
          ap (segments_left F _ (l.i + 1)) w.pos-is
          ∙ (segment-passed F _ l.i l.pos _ c.loop-i-test.true c.segment-s.ensures c.in_file.ensures w.if-in_file.true
          w.block_after.ensures w.in_ok-pos.was ∙ l.invariant)
      | else-in_file w ↦
          ap (segments_left F _ (l.i + 1)) w.pos-is
          ∙ (segment-left_out F _ l.i l.pos c.loop-i-test.true c.segment-s.ensures c.in_file.ensures w.if-in_file.false ∙ l.invariant)
    ]

pub returns : goal.returns
returns c = let l = c.loop-i in segments_end (file_of c.args.bytes.now) _ l.i l.pos c.loop-i-test.false ∙ l.invariant
