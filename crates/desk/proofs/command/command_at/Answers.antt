-- By the id: 1, 4 or 9, 5, then those between 2 and 8, and the rest.
use Rattle.std.proofs.Common.{inl, inr, arith}
use Rattle.desk.proofs.command.Laws.{asks_initialize, asks_load, asks_unload, asks_nothing, asks_unknown}
use Rattle.desk.proofs.command.command_at.Goals as goal

pub returns-in-1 : goal.returns-in-1
returns-in-1 c =
    let a = c.args in
    asks_initialize a.at a.w.now a.p c.id_at.ensures c.in-1.is c.initialize_asked.ensures

pub returns-in-4 : goal.returns-in-4
returns-in-4 c =
    let a = c.args in
    asks_load a.at a.w.now a.p c.id_at.ensures c.in-4.is c.load_asked.ensures

pub returns-in-5 : goal.returns-in-5
returns-in-5 c =
    let a = c.args in
    asks_unload a.at a.w.now a.p c.id_at.ensures c.in-5.is c.get.ensures

pub returns-in-2 : goal.returns-in-2
returns-in-2 c =
    let a = c.args in
    let m = c.in-2.in_default-own.rest in
    asks_nothing a.at a.w.now a.p c.id_at.ensures (omega (arith, c.in-2.if-this-lt1-own.false)) (omega (arith, c.in-2.if-this-lt9-own.true)) m.0.1 m.1

pub returns-in_default : goal.returns-in_default
returns-in_default c =
    let a = c.args in
    let m = c.in_default.in_default-own.rest in
    asks_unknown a.at a.w.now a.p c.id_at.ensures m.0.0.1 m.0.1 m.1 (inl (omega (arith, c.in_default.if-this-lt1-own.true)))

pub returns-in_default-2 : goal.returns-in_default-2
returns-in_default-2 c =
    let a = c.args in
    let m = c.in_default.in_default-own.rest in
    asks_unknown a.at a.w.now a.p c.id_at.ensures m.0.0.1 m.0.1 m.1 (inr (omega (arith, c.in_default.if-this-lt9-own.false)))
