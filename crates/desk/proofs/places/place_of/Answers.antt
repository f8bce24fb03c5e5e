use Rattle.std.proofs.Common.{sym, ◌∙◌, arith}
use Rattle.desk_spec.specs.Bytes.{desk_of}
use Rattle.desk.proofs.places.Turns.{its_place, other_place, no_place}
use Rattle.desk.proofs.places.place_of.Goals as goal

pub returns-then-place_word-caller : goal.returns-then-place_word-caller
returns-then-place_word-caller c =
    let args = c.args in
    let its = sym c.place_word.ensures ∙ c.if-place_word-caller.true in
    let last = its_place args.caller (desk_of args.desk.now).places c.loop-i.i (omega arith) its in
    omega arith

pub loop-i-preserved : goal.loop-i-preserved
loop-i-preserved c =
    let args = c.args in
    let more =
    other_place args.caller (desk_of args.desk.now).places c.loop-i.i (omega arith) (λ e. c.if-place_word-caller.false (c.place_word.ensures ∙ e)) in
    omega arith

pub returns : goal.returns
returns c =
    let args = c.args in
    let none = no_place args.caller (desk_of args.desk.now).places c.loop-i.i (omega arith) in
    omega arith
