use Rattle.std.proofs.Common.{arith}
use Rattle.desk.proofs.places.Turns.{turn_inside}
use Rattle.desk.proofs.places.take_oldest.Goals as goal

pub make_change-requires : goal.make_change-requires
make_change-requires c =
    let inside = turn_inside c.args.desk.now c.args.place c.requires in
    (inside.0, omega arith)
