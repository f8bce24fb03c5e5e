-- The line that a session prints for a step. Document 01, "The session program".
use Rattle.std.specs.Prelude.{ℕ, List, [], ◌++◌, Option, Some, None}
use Rattle.text.specs.Text.{bytes, hex_of, decimal_of}
use Rattle.linker_spec.specs.declared.call.Call.{Call}
use Rattle.linker_spec.specs.declared.call.Call.TheVariants.{Initialize, Load, Unload}

unfoldable pub call_name : Call → List ℕ
call_name (Initialize base size) = bytes "initialize"
call_name (Load l auto level) = bytes "load"
call_name (Unload base) = bytes "unload"

-- a step of a session is one of the three calls, so none has no name
unfoldable pub step_name : Option Call → List ℕ
step_name (Some c) = call_name c
step_name None = []

-- "step, call, number, then fixed size (load) or 1 if a module left (unload), else 0": hex serves for all three
unfoldable pub step_line : (k : ℕ) → Option Call → (number value : ℕ) → List ℕ
step_line k step number value =
    decimal_of k ++ bytes " " ++ step_name step ++ bytes " " ++ decimal_of number ++ bytes " " ++ hex_of value ++ bytes "\n"
