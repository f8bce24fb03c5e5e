use Rattle.std.proofs.Common.{◌≡◌, ◌+◌, ◌-◌, arith}
use Rattle.register.proofs.append.Laws.{sets_past, copy_some}
use Rattle.register.proofs.append.bytes.copy_into.Goals as goal

pub returns-then-buffer-place : goal.returns-then-buffer-place
returns-then-buffer-place c = sets_past c.args.buffer.now c.args.source.now c.args.place (omega arith)

pub returns : goal.returns
returns c =
    let a = c.args in
    let n : a.place + c.min-count.result - a.place ≡ c.min-count.result = omega arith in
    rw n (copy_some a.buffer.now a.source.now a.place _ c.if-buffer-place.false c.min-count.ensures c.copy_from_slice.ensures.after)
