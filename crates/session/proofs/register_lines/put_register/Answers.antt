-- The modules do not depend on the missing list.
use Rattle.register.specs.Read.Encoded.{modules_are}
use Rattle.text.specs.Puts.{puts_then}
use Rattle.session.proofs.register_lines.put_register.Goals as goal

pub returns : goal.returns
returns c = rw (← modules_are _ _ _ c.requires) (puts_then c.put_modules.ensures (c.put_missing.ensures c.args.names.now))
