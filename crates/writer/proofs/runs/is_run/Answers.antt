-- The check proves this goal alone; the `let` names the part that a wrong body breaks.
use Rattle.std.proofs.Common.{◌+◌, ◌-◌, ◌/◌, leb, ◌≡◌, arith}
use Rattle.std.proofs.lemmas.Grind.{common_steps}
use Rattle.writer_spec.specs.Description.{file_of, table_at}
use Rattle.writer_spec.specs.Runs.{is_run}
use Rattle.writer.proofs.runs.is_run.Goals as goal

pub returns-then-run-start-eq0 : goal.returns-then-run-start-eq0
unfolding is_run
returns-then-run-start-eq0 c =
    let a = c.args in
    let last
    : leb ((a.run.pointer - c.start-start.result) / 8 + a.run.length) c.count.result
    ≡ is_run (file_of a.bytes.now) (table_at a.table.field a.table.width) a.run.pointer a.run.length =
    grind (arith, common_steps)
    in last
