-- A byte that is 0 is one of the four, and where none is, none ends a name.
use Rattle.std.proofs.Common.{◌≡◌, ℕ, arith, eqb-true}
use borrow.Author.Tests.{eqb-false}
use Rattle.window.proofs.name_rows.has_zero.Goals as goal

pub returns-then-a-i-eq0 : goal.returns-then-a-i-eq0
returns-then-a-i-eq0 c = ((λ e. let z : ◌≡◌ {A = ℕ} 0 1 = cc in absurd (omega arith)), λ _ h. h.at0 c.if-a-i-eq0.true)

pub returns-then-a-i-eq0-2 : goal.returns-then-a-i-eq0-2
returns-then-a-i-eq0-2 c = ((λ e. let z : ◌≡◌ {A = ℕ} 0 1 = cc in absurd (omega arith)), λ _ h. h.at1 c.if-a-i-eq0-2.true)

pub returns-then-a-i-eq0-3 : goal.returns-then-a-i-eq0-3
returns-then-a-i-eq0-3 c = ((λ e. let z : ◌≡◌ {A = ℕ} 0 1 = cc in absurd (omega arith)), λ _ h. h.at2 c.if-a-i-eq0-3.true)

pub returns : goal.returns
returns c = (
  (λ e. record { at0 = c.if-a-i-eq0.false; at1 = c.if-a-i-eq0-2.false; at2 = c.if-a-i-eq0-3.false; at3 = eqb-false _ 0 e }),
  λ e h. h.at3 (eqb-true _ 0 e),
)
