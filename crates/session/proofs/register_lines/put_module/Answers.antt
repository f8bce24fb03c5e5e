-- The pieces of the line, one after another; the record's words are those of the module that stands there.
use Rattle.text.specs.Text.{bytes}
use Rattle.session.proofs.register_lines.Laws.{name-fits, module_line_lem}
use Rattle.session.proofs.register_lines.put_module.Goals as goal

pub put_name-requires : goal.put_name-requires
put_name-requires c =
    let m = c.requires in
    name-fits _ _ _ m.0 m.1 c.record_at-record.ensures c.record_name.ensures

pub returns : goal.returns
unfolding bytes
returns c =
    let m = c.requires in
    module_line_lem _ _ _ m.0 m.1 c.record_at-record.ensures c.record_name.ensures c.hex_after.ensures
    c.hex_after-2.ensures c.decimal_after.ensures c.decimal_after-2.ensures c.decimal_after-3.ensures
    c.put.ensures c.put_name.ensures c.put-2.ensures
