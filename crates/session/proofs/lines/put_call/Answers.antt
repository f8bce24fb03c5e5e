-- Each arm puts the name of its call.
use mathlib.Core.Path.{refl}
use Rattle.text.specs.Text.{bytes, put}
use Rattle.session.specs.Lines.{call_name, step_name}
use Rattle.session.proofs.lines.put_call.Goals as goal

pub returns-in-None : goal.returns-in-None
unfolding step_name put
returns-in-None c = rw c.in-None.is (record { text = refl; same = refl })

pub returns-in-Some-Initialize : goal.returns-in-Some-Initialize
unfolding call_name step_name bytes
returns-in-Some-Initialize c =
    let s = c.in-Some-Initialize in
    rw (s.is, rw s.is at s.field-0-is) c.put.ensures

pub returns-in-Some-Load : goal.returns-in-Some-Load
unfolding call_name step_name bytes
returns-in-Some-Load c =
    let s = c.in-Some-Load in
    rw (s.is, rw s.is at s.field-0-is) c.put-in-Some-Load.ensures

pub returns-in-Some-Unload : goal.returns-in-Some-Unload
unfolding call_name step_name bytes
returns-in-Some-Unload c =
    let s = c.in-Some-Unload in
    rw (s.is, rw s.is at s.field-0-is) c.put-in-Some-Unload.ensures
