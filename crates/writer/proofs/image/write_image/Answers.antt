use native.Mathlib.Omega.{arith}
use Rattle.writer.proofs.accepts.Laws.{taken_short, taken_some}
use Rattle.writer.proofs.image.Whole.{image_written}
use Rattle.writer.proofs.image.Outcomes.{refused, taken, too_short, written}
use Rattle.writer.proofs.image.write_image.Goals as goal

pub returns-then-not-accepts : goal.returns-then-not-accepts
returns-then-not-accepts c = refused _ _ c.accepts.ensures c.if-not-accepts.true

pub image_size-size-requires : goal.image_size-size-requires
image_size-size-requires c = taken_short _ (taken _ c.args.image.now c.accepts.ensures c.if-not-accepts.false)

pub returns-then-image-size : goal.returns-then-image-size
returns-then-image-size c = too_short _ _ c.accepts.ensures c.if-not-accepts.false c.image_size-size.ensures c.if-image-size.true

pub store32-requires : goal.store32-requires
store32-requires c =
    let some = taken_some _ (taken _ c.args.image.now c.accepts.ensures c.if-not-accepts.false) in
    omega (arith, some, c.clear.ensures.kept, c.copy.ensures.kept, c.image_size-size.ensures, c.if-image-size.false)

pub store32-requires-2 : goal.store32-requires-2
store32-requires-2 c =
    let some = taken_some _ (taken _ c.args.image.now c.accepts.ensures c.if-not-accepts.false) in
    omega (arith, some, c.store32.auto, c.clear.ensures.kept, c.copy.ensures.kept, c.image_size-size.ensures, c.if-image-size.false)

pub returns : goal.returns
returns c =
    let is = c.image_size-size.ensures in
    let room = c.if-image-size.false in
    let accepted = taken _ c.args.image.now c.accepts.ensures c.if-not-accepts.false in
    written _ _ c.accepts.ensures c.if-not-accepts.false is room
    (image_written _ _ _ _ _ (taken_some _ accepted) (rw is at room) c.copy.ensures (rw is at c.clear.ensures) c.store32.ensures _
    (rw is at c.store32-2.ensures))
