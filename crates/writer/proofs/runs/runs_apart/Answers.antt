use Rattle.std.proofs.Common.{max, ap, ◌∙◌, arith}
use Rattle.writer_spec.specs.Description.{file_of}
use Rattle.writer.proofs.runs.Laws.{no_runs, run_none, run_past, run-clear, run-meets, runs_end}
use Rattle.writer.proofs.runs.runs_apart.Goals as goal
use Rattle.writer.proofs.runs.runs_apart.Goals.{then-entries-ne0+else-entries-end, else-entries-end-via-then-entries-end+else-not-run_meets_none, else-entries-end-via-else-entries-end, else-entries-ne0}

pub loop-j-init : goal.loop-j-init
loop-j-init c = no_runs (file_of c.args.bytes.now) _

pub returns-then-not-run_meets_none : goal.returns-then-not-run_meets_none
returns-then-not-run_meets_none c =
    run-meets (file_of c.args.bytes.now) _ c.loop-j.invariant c.loop-j-test.true c.run_of-entries.ensures.pointer c.run_of-entries.ensures.length
    c.run_meets_none.ensures c.if-not-run_meets_none.true c.count-j-end.ensures

pub loop-j-preserved : goal.loop-j-preserved
loop-j-preserved c =
    let F = file_of c.args.bytes.now in
    let so_far = c.loop-j.invariant in
    let pointer = c.run_of-entries.ensures.pointer in
    let length = c.run_of-entries.ensures.length in
    elim c.if-entries-ne0.branch [
      | then-entries-ne0+else-entries-end w ↦ elim w.else-entries-end.branch [
        | else-entries-end-via-then-entries-end+else-not-run_meets_none v ↦
            run-clear F _ so_far c.loop-j-test.true pointer length v.run_meets_none.ensures v.if-not-run_meets_none.false
            (w.end-is ∙ (w.max-end.ensures ∙ ap (max c.loop-j.end) w.end_of.ensures))
        | else-entries-end-via-else-entries-end v ↦
            run_past F _ so_far c.loop-j-test.true pointer length v.if-entries-end.false (w.end-is ∙ (w.max-end.ensures ∙ ap (max c.loop-j.end) w.end_of.ensures))
      ]
      | else-entries-ne0 w ↦ rw w.end-is (run_none F _ so_far c.loop-j-test.true pointer length w.if-entries-ne0.false)
    ]

pub returns : goal.returns
returns c = runs_end (file_of c.args.bytes.now) _ c.loop-j.invariant (omega (arith, c.count-j-end.ensures))
