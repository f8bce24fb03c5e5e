-- The lines of the steps of document 01's example.
use Rattle.std.specs.Prelude.{◌≡◌, refl, Some}
use Rattle.linker_spec.specs.declared.rebase.LoadArguments.{LoadArguments}
use Rattle.text.specs.Text.{bytes, hex_of, decimal_of, digits_in, digit_of}
use Rattle.linker_spec.specs.declared.call.Call.TheVariants.{Load, Unload}
use Rattle.session.specs.Lines.{call_name, step_name, step_line}

step_1 : step_line 1 (Some (Unload 0x100000)) 0 0 ≡ bytes "1 unload 0 0\n"
unfolding step_line step_name call_name decimal_of hex_of digits_in digit_of bytes
step_1 = refl

step_3 : (l : LoadArguments) → step_line 3 (Some (Load l 1 1)) 0 0x1000 ≡ bytes "3 load 0 1000\n"
unfolding step_line step_name call_name decimal_of hex_of digits_in digit_of bytes
step_3 l = refl
