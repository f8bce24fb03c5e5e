use Rattle.std.proofs.Common.{subst}
use Rattle.linker.specs.Exports.Gathered.{Gathered, GatherStep}
use Rattle.linker.proofs.exports.Laws.{passed-named, added_named}
use Rattle.linker.proofs.waiting.Laws.{ends_open}
use Rattle.linker.proofs.exports.gather_named.Goals as goal

pub returns-in-None : goal.returns-in-None
unfolding GatherStep
returns-in-None c = (
  ends_open _ _ _ c.requires.0 c.requires.1 c.requires.2,
  λ h g m first ef k. subst (λ xs. Gathered c.args.at c.args.w.now g m first xs c.args.before c.args.records.now c.args.names.now)
      (passed-named c.args.at c.args.w.now c.args.base c.args.i c.args.table _ _ _ _ c.entry_address-entry.ensures
      c.wrapping_add_u32.ensures.value c.word.ensures c.tag_to_address.ensures h c.in-None.is)
      k,
)

pub returns-in-Some : goal.returns-in-Some
returns-in-Some c = (
  c.put_waiting.ensures.0,
  λ h g m first ef k. subst (λ xs. GatherStep c.args.at c.args.w.now g m first xs c.put_waiting.result c.args.records.now
      c.put_waiting.new.records c.args.names.now)
      (added_named c.args.at c.args.w.now c.args.base c.args.i c.args.table _ _ _ _ c.entry_address-entry.ensures
      c.wrapping_add_u32.ensures.value c.word.ensures c.tag_to_address.ensures h _ _ c.in-Some.is c.word-place.ensures)
      (c.put_waiting.ensures.1 g m first _ ef k),
)
