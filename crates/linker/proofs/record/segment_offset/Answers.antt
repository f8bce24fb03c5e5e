use Rattle.std.proofs.Common.{sym, ap, ◌∙◌}
use Rattle.linker_spec.specs.Exports.{offset_or0}
use Rattle.linker.proofs.record.segment_offset.Goals as goal

pub returns-in-Some : goal.returns-in-Some
returns-in-Some c = ap offset_or0 (sym c.in-Some.is ∙ c.segment.ensures)

pub returns-in-None : goal.returns-in-None
returns-in-None c = ap offset_or0 (sym c.in-None.is ∙ c.segment.ensures)
