-- One entry after the other where a pointer may lie past its entry; else by `for_each_entry`.
use Rattle.std.proofs.Common.{sym, ◌∙◌, rules}
use Rattle.linker_spec.specs.Rebase.{move_pointers, pointers_of}
use Rattle.linker.proofs.rebase.Pointers.{entries-idle}
use Rattle.linker.proofs.rebase.tables.move_entries.Goals as goal

pub returns : goal.returns
returns c =
    let a = c.args in
    c.for_each_entry.ensures (λ entry. move_pointers a.forward a.base entry (pointers_of a.t))
    (entries-idle a.at a.forward a.base a.t (sym c.pointers_within.ensures ∙ c.if-not-pointers_within.false)) (λ w trace entry w' trace' small call. search rules)
