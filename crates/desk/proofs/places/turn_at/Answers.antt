use Rattle.std.proofs.Common.{◌≡◌, rules}
use Rattle.desk_spec.specs.Bytes.{desk_of}
use Rattle.desk_spec.specs.Desk.{first_waiting}
use Rattle.desk.proofs.places.Turns.{turn-short, turn_found}
use Rattle.desk.proofs.places.Writing.{copy_desk}
use Rattle.desk.proofs.places.turn_at.Goals as goal

pub returns-in_err-desk : goal.returns-in_err-desk
returns-in_err-desk c = rw c.from_residual.ensures (turn-short _ c.in_err-desk.ensures.cases)

pub returns : goal.returns
returns c =
    let desk = c.in_ok-desk.desk.now in
    let first = c.in_ok-desk.ensures.cases in
    let same = copy_desk c.args.desk.now first.same in
    turn_found _ first.enough (rw same at c.next.ensures) (rw same at c.first_waiting.ensures) c.or_else.ensures
    (λ p. let round : c.or_else.result ≡ first_waiting 0 (desk_of desk).places = search rules in rw same at round)
