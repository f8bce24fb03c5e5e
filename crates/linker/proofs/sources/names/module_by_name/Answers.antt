use Rattle.window.specs.Trace.{run_t}
use Rattle.window.specs.Name.{name_at, name-fits, name_taken}
use Rattle.register.specs.Read.Read.{modules_of, place_from, has_name}
use Rattle.linker.proofs.sources.Laws.{name_made}
use Rattle.linker.proofs.sources.names.module_by_name.Goals as goal

pub slice_bounds-buffer-end : goal.slice_bounds-buffer-end
slice_bounds-buffer-end c =
    let a = c.args in
    name-fits (run_t a.at (name_at a.address) (a.w.now, a.trace.now)).0 _ c.read_name-n.ensures.0

pub slice_bounds-first_with_name-end : goal.slice_bounds-first_with_name-end
slice_bounds-first_with_name-end c =
    let a = c.args in
    name_taken (run_t a.at (name_at a.address) (a.w.now, a.trace.now)).0 _ c.read_name-n.ensures.0

pub returns : goal.returns
returns c =
    let a = c.args in (
      name_made (λ x. place_from 32 (modules_of a.records.now a.names.now) (has_name x)) a.at a.address (a.w.now, a.trace.now) _ c.first_with_name.ensures c.read_name-n.ensures.0,
      c.read_name-n.ensures.1,
    )
