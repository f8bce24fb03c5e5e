use Rattle.std.proofs.Common.{sym, ap, ◌∙◌, ◌==◌}
use Rattle.register.specs.Read.Read.{has_base}
use Rattle.register.proofs.read.Searches.{base_of_record}
use Rattle.register.proofs.read.modules.first_with_base.Goals as goal

pub returns : goal.returns
unfolding has_base
returns c =
    λ names e. c.first_record.ensures names (has_base c.args.base) e
    (λ place m b s call. call.1 ∙ ap (λ base. base == c.args.base) (sym (base_of_record s)))
