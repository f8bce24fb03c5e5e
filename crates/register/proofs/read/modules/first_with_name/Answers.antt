use Rattle.std.proofs.Common.{ap, ◌∙◌}
use Rattle.register.specs.Words.{same}
use Rattle.register.specs.Read.Read.{has_name}
use Rattle.register.proofs.read.Searches.{name_of_record}
use Rattle.register.proofs.read.modules.first_with_name.Goals as goal

pub returns : goal.returns
unfolding has_name
returns c =
    c.first_record.ensures c.args.names.now (has_name c.args.name.now) c.requires
    (λ place m b s call. call.1 ∙ ap (same c.args.name.now) (name_of_record s))
