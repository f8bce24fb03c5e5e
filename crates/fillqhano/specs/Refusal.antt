-- The two tests that come first in all three calls.
use Rattle.std.specs.Prelude.{if◌then◌else◌, ℕ, Bool}
use Rattle.linker_spec.specs.declared.refusal.Refusal.TheVariants.{BadWindow, NoRegister}
use Rattle.linker_spec.specs.Refusal.{refusal_number}

-- the number of the first two tests: the window's, then the register's, 0 where both pass
unfoldable pub refusal_of_buffers : Bool → Bool → ℕ
refusal_of_buffers good_window is_register = if good_window then (if is_register then 0 else refusal_number NoRegister) else refusal_number BadWindow
