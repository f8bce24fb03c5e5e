use Rattle.window.specs.Trace.{run_t}
use Rattle.window.specs.Name.{name_at, name-fits, name_taken}
use Rattle.register.specs.Words.{same}
use Rattle.linker.proofs.sources.Laws.{name_made}
use Rattle.linker.proofs.sources.names.is_name.Goals as goal

pub slice_bounds-buffer-end : goal.slice_bounds-buffer-end
slice_bounds-buffer-end c =
    let a = c.args in
    name-fits (run_t a.at (name_at a.address) (a.w.now, a.trace.now)).0 _ c.read_name-n.ensures.0

pub slice_bounds-same_name-end : goal.slice_bounds-same_name-end
slice_bounds-same_name-end c =
    let a = c.args in
    name_taken (run_t a.at (name_at a.address) (a.w.now, a.trace.now)).0 _ c.read_name-n.ensures.0

pub returns : goal.returns
returns c =
    let a = c.args in (
      name_made (λ x. same x a.name.now) a.at a.address (a.w.now, a.trace.now) _ c.same_name.ensures c.read_name-n.ensures.0,
      c.read_name-n.ensures.1,
    )
