use Rattle.std.proofs.Common.{◌≡◌, ◌∙◌, arith}
use Rattle.writer_spec.specs.Description.{file_of, name_room}
use Rattle.writer.proofs.strings.Laws.{name_goes_on, name_ends, name_full}
use Rattle.writer.proofs.strings.name_length.Goals as goal

pub returns-then-byte-eq0 : goal.returns-then-byte-eq0
returns-then-byte-eq0 c =
    let l = c.loop-n in
    name_ends (file_of c.args.bytes.now) name_room c.args.p l.n c.loop-n-test.true c.byte.ensures c.if-byte-eq0.true ∙ l.invariant

pub loop-n-preserved : goal.loop-n-preserved
loop-n-preserved c =
    let l = c.loop-n in
    name_goes_on (file_of c.args.bytes.now) name_room c.args.p l.n c.loop-n-test.true c.byte.ensures c.if-byte-eq0.false ∙ l.invariant

pub returns : goal.returns
returns c =
    let l = c.loop-n in
    let full : name_room ≡ l.n = omega arith in
    full ∙ (name_full (file_of c.args.bytes.now) name_room c.args.p l.n c.loop-n-test.false ∙ l.invariant)
