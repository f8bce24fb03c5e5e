use Rattle.std.proofs.Common.{rules}
use Rattle.linker_spec.specs.Resets.{reset_at}
use Rattle.linker.specs.Resets.Tables.{reset_table}
use Rattle.linker.proofs.resets.Laws.{at-idle}
use Rattle.linker.proofs.resets.reset_table.Goals as goal

pub returns : goal.returns
unfolding reset_table
returns c =
    let a = c.args in
    c.for_each_entry.ensures (reset_at a.base a.handler) (at-idle a.at a.base a.handler) (λ w trace entry w' trace' small call. search rules)
