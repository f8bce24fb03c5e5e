-- The lines of the register of document 01's example, and a name.
use Rattle.std.specs.Prelude.{◌≡◌, refl, [], true}
use Rattle.register.specs.Module.{Module}
use Rattle.register.specs.Encode.{flag}
use Rattle.text.specs.Text.{bytes, hex_of, decimal_of, pairs_of, digits_in, digit_of}
use Rattle.session.specs.RegisterLines.Lines.{name_text, module_line, name_lines, missing_lines}

one : Module
one = record { base = 0x100000; size = 0x1000; auto = true; name = []; segments = []; named = []; indexed = [] }

module_1 : module_line one ≡ bytes "module 100000 1000 1 0 0 0\n"
unfolding module_line one name_text flag decimal_of hex_of digits_in digit_of bytes
module_1 = refl

missing_0 : missing_lines [] ≡ bytes "missing 0\n"
unfolding missing_lines name_lines decimal_of digits_in digit_of bytes
missing_0 = refl

name_2 : name_text (bytes "al") ≡ bytes "2 616c"
unfolding name_text pairs_of decimal_of digits_in digit_of bytes
name_2 = refl
