-- Inside, or before a touch is kept: 1.
use Rattle.std.proofs.Common.{rules}
use Rattle.window.proofs.outside.Laws.{silent_inside, silent_not_yet, silent_past}
use Rattle.window.proofs.outside.silent_stride.Goals as goal

pub returns-then-place_of-n : goal.returns-then-place_of-n
returns-then-place_of-n c =
    let a = c.args in
    silent_inside a.at a.n a.trace.now a.entry a.size a.left c.place_of.ensures c.if-place_of-n.true

pub returns-then-not-said : goal.returns-then-not-said
returns-then-not-said c =
    let a = c.args in
    silent_not_yet a.at a.n a.trace.now a.entry a.size a.left c.said.ensures (search rules)

pub returns : goal.returns
returns c =
    let a = c.args in
    silent_past a.at a.n a.trace.now a.entry a.size a.left c.said.ensures (search rules) c.stride.ensures
