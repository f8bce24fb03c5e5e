-- What `fillqhano::call::make_call` gives, as a session's next call: `call_continues`.
use native.Mathlib.Omega.{arith}
use Rattle.linker_spec.specs.Valid.{AreBytes}
use Rattle.linker_spec.specs.Outcome.{buffers}
use Rattle.session.proofs.call.Laws.{call_continues}
use Rattle.session.proofs.call.make_call.Goals as goal

pub returns : goal.returns
returns c =
    let a = c.args in
    let b = buffers a.window.now a.records.now a.names.now a.missing.now in
    let bytes : AreBytes b = (λ i. omega (arith, c.slice_known-1.given i), λ i. omega (arith, c.slice_known-2-1.given i)) in
    let made = c.make_call-number.ensures in
    let both = call_continues a.call a.at b bytes (made.answered, (made.touches, made.words)) in
    record { continues = both.0; touches = both.1 }
