use Rattle.std.proofs.Common.{◌<◌, arith, le-ltb, lt-ltb}
use Rattle.window.specs.Word.{word_in}
use Rattle.register.specs.Change.Bytes.{names_end}
use Rattle.register.proofs.change.remove.names_end.Goals as goal

pub load32-requires-then-next-load32 : goal.load32-requires-then-next-load32
load32-requires-then-next-load32 c = let t : c.args.next < word_in c.args.records.now 12 = omega arith in
    let h = c.requires.1 t in
    omega arith

pub returns-then-next-load32 : goal.returns-then-next-load32
unfolding names_end
returns-then-next-load32 c = rw (← c.load32.ensures, lt-ltb _ _ c.if-next-load32.true) c.load32-then-next-load32.ensures

pub returns : goal.returns
unfolding names_end
returns c = rw (← c.load32.ensures, le-ltb _ _ c.if-next-load32.false) c.load32-2.ensures
