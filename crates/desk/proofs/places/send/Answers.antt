use Rattle.std.proofs.Common.{arith}
use Rattle.desk_spec.specs.Bytes.{desk_of}
use Rattle.desk_spec.specs.Places.{found_within}
use Rattle.desk.proofs.places.Turns.{sent_nowhere, ninth_caller, seventeenth_buffer, sent_there}
use Rattle.desk.proofs.places.Writing.{copy_desk}
use Rattle.desk.proofs.places.send.Goals as goal

pub returns-in_default : goal.returns-in_default
returns-in_default c =
    let args = c.args in
    sent_nowhere args.caller args.buffer args.desk.now c.in_default.ensures.cases

pub returns-then-place : goal.returns-then-place
returns-then-place c =
    let args = c.args in
    let first = c.in-Some.ensures.cases in
    let own = rw (copy_desk _ first.same) at c.place_of-place.ensures in
    ninth_caller args.caller args.buffer args.desk.now first.enough own (omega (arith, c.if-place.true))

pub returns-then-place_word-ge-MOST_WAITING : goal.returns-then-place_word-ge-MOST_WAITING
returns-then-place_word-ge-MOST_WAITING c =
    let args = c.args in
    let first = c.in-Some.ensures.cases in
    let own = rw (copy_desk _ first.same) at c.place_of-place.ensures in
    let waiting = rw (copy_desk _ first.same) at c.place_word.ensures in
    seventeenth_buffer args.caller args.buffer args.desk.now first.enough own waiting (omega (arith, c.if-place_word-ge-MOST_WAITING.true))

pub make_change-requires : goal.make_change-requires
make_change-requires c =
    let args = c.args in
    let first = c.in-Some.ensures.cases in
    let own = rw (copy_desk _ first.same) at c.place_of-place.ensures in
    let most = found_within args.caller (desk_of args.desk.now).places in
    (first.enough, omega (arith, own))

pub returns : goal.returns
returns c =
    let args = c.args in
    let first = c.in-Some.ensures.cases in
    let own = rw (copy_desk _ first.same) at c.place_of-place.ensures in
    let waiting = rw (copy_desk _ first.same) at c.place_word.ensures in
    sent_there args.caller args.buffer args.desk.now first.enough own waiting
    c.if-place.false c.if-place_word-ge-MOST_WAITING.false c.make_change.ensures
