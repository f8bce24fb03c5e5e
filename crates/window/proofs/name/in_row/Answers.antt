-- Only the last test is a yes, and there the first two held.
use Rattle.std.proofs.Common.{◌≡◌, ℕ, ◌+◌, ◌^◌, ◌≤◌, arith, leb-true}
use Rattle.window.proofs.name.in_row.Goals as goal

pub returns-then-n-count : goal.returns-then-n-count
returns-then-n-count c e = let z : ◌≡◌ {A = ℕ} 0 1 = cc in absurd (omega arith)

pub returns-then-n-count-2 : goal.returns-then-n-count-2
returns-then-n-count-2 c e = let z : ◌≡◌ {A = ℕ} 0 1 = cc in absurd (omega arith)

pub returns : goal.returns
returns c e =
    let a = c.args in
    let l : a.i + a.count ≤ 2 ^ 32 = leb-true (a.i + a.count) (2 ^ 32) e in
    (l, omega arith)
