-- Test by test: `past_first`, `past_second`, `by_third`.
use Rattle.std.proofs.Common.{refl}
use Rattle.linker.proofs.rebase.Pointers.{past_first, past_second, by_third}
use Rattle.linker.proofs.rebase.tables.pointers_within.Goals as goal

pub returns-then-size-t : goal.returns-then-size-t
returns-then-size-t c =
    let a = c.args in
    past_first a.t a.t.entry_size refl c.if-size-t.true

pub returns-then-size-t-2 : goal.returns-then-size-t-2
returns-then-size-t-2 c =
    let a = c.args in
    past_second a.t a.t.entry_size refl c.if-size-t.false c.if-size-t-2.true

pub returns : goal.returns
returns c =
    let a = c.args in
    by_third a.t a.t.entry_size refl c.if-size-t.false c.if-size-t-2.false
