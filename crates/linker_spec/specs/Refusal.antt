-- The numbers of refusals, and what a step that may be refused answers.
use Rattle.std.specs.Prelude.{◌≡◌, ℕ, ◌≤◌, ◌<◌, Result, Ok, Err}
use Rattle.std.proofs.Common.{arith}
use Rattle.linker_spec.specs.declared.refusal.Refusal.{Refusal}
use Rattle.linker_spec.specs.declared.refusal.Refusal.TheVariants.{NotACro, BadSegment, BadWindow, NoRegister, NoRoom}
use Rattle.linker_spec.specs.declared.refusal.RebaseError.{RebaseError}

-- the table of numbers
abbrev pub refusal_number : Refusal → ℕ
refusal_number NotACro = 1
refusal_number BadSegment = 2
refusal_number BadWindow = 3
refusal_number NoRegister = 4
refusal_number NoRoom = 5

pub refusal_from_1 : (refusal : Refusal) → (0 < refusal_number refusal) × (refusal_number refusal ≤ 5)
refusal_from_1 NotACro = (omega arith, omega arith)
refusal_from_1 BadSegment = (omega arith, omega arith)
refusal_from_1 BadWindow = (omega arith, omega arith)
refusal_from_1 NoRegister = (omega arith, omega arith)
refusal_from_1 NoRoom = (omega arith, omega arith)

pub refusal-not-0 : (refusal : Refusal) → refusal_number refusal ≡ 0 → ⊥
refusal-not-0 refusal e = let h = refusal_from_1 refusal in absurd (omega arith)

-- a rebase that fails is refused with the number of its row
abbrev pub rebase_refusal : RebaseError → Refusal
rebase_refusal RebaseError.NotACro = NotACro
rebase_refusal RebaseError.BadSegment = BadSegment

-- how a rebase ends
abbrev pub Rebased : Type 0
Rebased = Result (Unit {0}) RebaseError

-- the number of an answer, 0 where it is no refusal; and the value beside it, 0 with a refusal
abbrev pub number_of : {A : Type 0} → Result A Refusal → ℕ
number_of (Ok value) = 0
number_of (Err refusal) = refusal_number refusal

abbrev pub value_of : Result ℕ Refusal → ℕ
value_of (Ok value) = value
value_of (Err refusal) = 0
