use Rattle.writer.proofs.words.Laws.{room_none, data-some, data-empty, bss-more, others-more}
use Rattle.writer.proofs.words.room_of.Goals as goal
use Rattle.writer.proofs.words.room_of.Goals.{in-Data+then-s-ne0, in-Data+else-s-ne0, in-Bss, in-Code}

pub loop-i-init : goal.loop-i-init
loop-i-init c = room_none _ _

pub loop-i-preserved : goal.loop-i-preserved
loop-i-preserved c =
    let below = c.loop-i.invariant in
    let said = c.segment-s.ensures in
    elim c.match-s.branch [
      | in-Data+then-s-ne0 w ↦ rw w.room-is (data-some _ _ below said w.in-Data.is w.max.ensures w.if-s-ne0.true)
      | in-Data+else-s-ne0 w ↦ rw w.room-is (data-empty _ _ below said w.in-Data.is w.max.ensures w.if-s-ne0.false)
      | in-Bss w ↦ rw w.room-is (bss-more _ _ below said w.in-Bss.is w.max-in-Bss.ensures)
      | in-Code w ↦ rw w.room-is (others-more _ _ below said w.in-Code.is)
    ]
