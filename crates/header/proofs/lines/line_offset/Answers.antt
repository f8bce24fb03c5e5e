-- The offsets go up by four in each of the two runs.
use Prim.Native.Nat.{◌+◌, ◌-◌}
use mathlib.Core.Path.{◌≡◌, refl, sym, ap, ◌∙◌}
use native.Mathlib.Omega.{arith}
use lib.ListN.{take, drop}
use lib.Seq.{get_or-take, get_or-drop}
use Rattle.header.specs.Lines.{header_lines, line_at}
use Rattle.header.proofs.Words.{in_steps}
use Rattle.header.proofs.lines.line_offset.Goals as goal

pub returns-then-k-lt7 : goal.returns-then-k-lt7
unfolding header_lines line_at
returns-then-k-lt7 c =
    let k = c.args.k in
    let h = c.if-k-lt7.true in
    sym (in_steps 0x080 (take 7 header_lines) k refl h) ∙ ap (λ p. p.1) (get_or-take 7 header_lines k ("", 0) h)

pub returns-else-k-lt7 : goal.returns-else-k-lt7
unfolding header_lines line_at
returns-else-k-lt7 c =
    let k = c.args.k in
    let e : 7 + (k - 7) ≡ k = omega arith in
    sym (in_steps 0x0ac (drop 7 header_lines) (k - 7) refl (omega arith))
    ∙ ap (λ p. p.1) (get_or-drop 7 header_lines (k - 7) ("", 0))
    ∙ rw e
