use Rattle.std.proofs.Common.{arith}
use Rattle.register.specs.Words.{part}
use Rattle.register.proofs.change.Laws.{cut_in_steps}
use Rattle.register.proofs.change.remove.cut_record.Goals as goal

pub lower_records-requires : goal.lower_records-requires
unfolding part
lower_records-requires c = rw c.load32-used.ensures c.requires.4

pub returns : goal.returns
returns c = cut_in_steps _
    c.args.place
    c.args.size
    c.args.gap
    c.load32-used.result
    c.load32-used.ensures (omega arith)
    c.lower_records.ensures
    c.close_gap.ensures c.lower_header.ensures
