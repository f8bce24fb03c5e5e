-- The lines that a session prints of a register. Document 01, "The session program".
use Rattle.std.specs.Prelude.{ℕ, List, [], ◌∷◌, ◌++◌, length}
use Rattle.register.specs.Module.{Module}
use Rattle.register.specs.Encode.{flag}
use Rattle.text.specs.Text.{bytes, hex_of, decimal_of, pairs_of}

-- "name length, then the name's bytes as hex pairs if any"
unfoldable pub name_text : List ℕ → List ℕ
name_text [] = decimal_of 0
name_text (b ∷ s) = decimal_of (length (b ∷ s)) ++ bytes " " ++ pairs_of (b ∷ s)

-- "Module lines: base, size, auto-link, named, indexed, name length, then the name's bytes"
unfoldable pub module_line : Module → List ℕ
module_line m =
    bytes "module " ++ hex_of m.base ++ bytes " " ++ hex_of m.size ++ bytes " " ++ decimal_of (flag m.auto) ++ bytes " "
    ++ decimal_of (length m.named) ++ bytes " " ++ decimal_of (length m.indexed) ++ bytes " " ++ name_text m.name ++ bytes "\n"

unfoldable pub module_lines : List Module → List ℕ
module_lines [] = []
module_lines (m ∷ ms) = module_line m ++ module_lines ms

-- "a line for each missing name: length, then bytes likewise"
unfoldable pub name_lines : List (List ℕ) → List ℕ
name_lines [] = []
name_lines (n ∷ ns) = name_text n ++ bytes "\n" ++ name_lines ns

-- "Then comes `missing` with the count, and a line for each missing name"
unfoldable pub missing_lines : List (List ℕ) → List ℕ
missing_lines ns = bytes "missing " ++ decimal_of (length ns) ++ bytes "\n" ++ name_lines ns
