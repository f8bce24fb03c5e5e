use Rattle.std.proofs.Common.{◌/◌, ap}
use Rattle.desk_spec.specs.Command.{id_at}
use Rattle.desk.proofs.command.id_at.Goals as goal

pub returns : goal.returns
unfolding id_at
returns c = ap (λ word. word / 65536) c.get.ensures
