-- No text is longer than 139,264 bytes: that much the session program lends.
use Rattle.std.specs.Prelude.{if◌then◌else◌, ℕ, zero, suc, ◌+◌, ◌*◌, ◌/◌, ◌%◌, ◌≤◌, ◌≡◌, refl, Bool, true, false, ◌&&◌, List, [], ◌∷◌, ◌++◌, length, ltb, leb, Option, Some, None}
use Rattle.std.proofs.Common.{arith, length-append, leb-true}
use Rattle.window.specs.Tests.{both}
use Rattle.window.specs.Name.{is_name}
use Rattle.register.specs.Module.{Module, Register, proper, proper_module, proper_modules, proper_names, named_ok, ascending}
use Rattle.register.specs.Encode.{flag}
use Rattle.register.specs.Proper.{proper-parts}
use Rattle.linker_spec.specs.Outcome.{Buffers}
use Rattle.linker_spec.specs.Refusals.{lent_register}
use Rattle.text.specs.Text.{bytes, digit_of, digits_in, hex_of, decimal_of, pairs_of}
use Rattle.linker_spec.specs.declared.call.Call.{Call}
use Rattle.linker_spec.specs.declared.call.Call.TheVariants.{Initialize, Load, Unload}
use Rattle.session.specs.Head.{step_count}
use Rattle.session.specs.Steps.{step_at}
use Rattle.session.specs.File.{is_session}
use Rattle.session.specs.Parts.{session_parts}
use Rattle.session.specs.Lines.{call_name, step_name, step_line}
use Rattle.session.specs.RegisterLines.Lines.{name_text, module_line, module_lines, name_lines, missing_lines}
use Rattle.session.specs.Run.{start}
use Rattle.session.specs.Session.{outcome_at, steps, register_lines, session_text}

digits_most : (radix n v : ℕ) → length (digits_in radix n v) ≤ n
unfolding digits_in
digits_most radix zero v = omega arith
digits_most radix (suc n) v = go (ltb v radix) (digits_most radix n (v / radix))
  where
    go
        : (t : Bool) → length (digits_in radix n (v / radix)) ≤ n
        → length (if t then digit_of v ∷ [] else digits_in radix n (v / radix) ++ (digit_of (v % radix) ∷ [])) ≤ suc n
    go true h = omega arith
    go false h = let e = length-append (digits_in radix n (v / radix)) (digit_of (v % radix) ∷ []) in omega arith

decimal_most : (v : ℕ) → length (decimal_of v) ≤ 10
unfolding decimal_of
decimal_most v = digits_most 10 10 v

hex_most : (v : ℕ) → length (hex_of v) ≤ 8
unfolding hex_of
hex_most v = digits_most 16 8 v

pairs-length : (s : List ℕ) → length (pairs_of s) ≡ 2 * length s
unfolding pairs_of
pairs-length [] = refl
pairs-length (b ∷ s) = let e = pairs-length s in omega arith

call_most : (c : Call) → length (call_name c) ≤ 10
unfolding call_name bytes
call_most (Initialize base size) = omega arith
call_most (Load l auto level) = omega arith
call_most (Unload base) = omega arith

name-at_most : (s : Option Call) → length (step_name s) ≤ 10
unfolding step_name
name-at_most (Some c) = call_most c
name-at_most None = omega arith

step_most : (k : ℕ) (s : Option Call) (n v : ℕ) → length (step_line k s n v) ≤ 42
unfolding step_line bytes
step_most k s n v = simp length-append (omega (arith, decimal_most k, name-at_most s, decimal_most n, hex_most v))

steps_most : (file : List ℕ) (n k : ℕ) (b : Buffers) → length (steps file n k b).0 ≤ 42 * n
unfolding steps
steps_most file zero k b = omega arith
steps_most file (suc n) k b =
    let o = outcome_at file k b in
    let h = steps_most file n (k + 1) o.left in
    simp length-append (omega (arith, step_most (k + 1) (step_at file k) o.number o.value))

name-short : (s : List ℕ) → is_name s ≡ true → length s ≤ 512
unfolding is_name
name-short s e = leb-true _ _ (both (leb (length s) 512) _ e).0

name_most : (s : List ℕ) → is_name s ≡ true → length (name_text s) ≤ 1035
unfolding name_text bytes
name_most [] e = omega (arith, decimal_most 0)
name_most (b ∷ s) e =
    simp length-append (omega (arith, decimal_most (length (b ∷ s)), pairs-length (b ∷ s), name-short (b ∷ s) e))

module_most : (m : Module) → is_name m.name ≡ true → length (module_line m) ≤ 1094
unfolding module_line bytes
module_most m e =
    simp length-append
    (omega (
      arith,
      hex_most m.base,
      hex_most m.size,
      decimal_most (flag m.auto),
      decimal_most (length m.named),
      decimal_most (length m.indexed),
      name_most m.name e,
    ))

modules_most : (ms : List Module) → proper_modules ms ≡ true → length (module_lines ms) ≤ 1094 * length ms
unfolding module_lines proper_modules proper_module
modules_most [] e = omega arith
modules_most (m ∷ ms) e =
    let a = both (proper_module m) (proper_modules ms) e in
    let n = both (is_name m.name) (leb (length m.segments) 16 && (named_ok m.named && ascending m.named)) a.0 in
    simp length-append (omega (arith, module_most m n.0, modules_most ms a.1))

names_most : (ns : List (List ℕ)) → proper_names ns ≡ true → length (name_lines ns) ≤ 1036 * length ns
unfolding name_lines proper_names bytes
names_most [] e = omega arith
names_most (n ∷ ns) e =
    let a = both (is_name n) (proper_names ns) e in
    simp length-append (omega (arith, name_most n a.0, names_most ns a.1))

register_most : (r : Register) → proper r ≡ true → length (register_lines r) ≤ 136339
unfolding register_lines missing_lines bytes
register_most r e =
    let a = proper-parts r e in
    let m = modules_most r.modules a.modules in
    let n = names_most r.missing a.kept in
    simp length-append (omega (arith, decimal_most (length r.missing), a.count, a.few))

pub text_fits
    : (file : List ℕ) → is_session file ≡ true → proper (lent_register (steps file (step_count file) 0 (start file)).1) ≡ true
    → length (session_text file) ≤ 139264
unfolding session_text bytes
text_fits file s e =
    let ends = steps file (step_count file) 0 (start file) in
    let a = register_most (lent_register ends.1) e in
    let b = steps_most file (step_count file) 0 (start file) in
    rw s (simp length-append (omega (arith, decimal_most (step_count file), (session_parts file s).0)))

pub bad_fits : (file : List ℕ) → is_session file ≡ false → length (session_text file) ≤ 139264
unfolding session_text bytes
bad_fits file s = rw s (omega arith)
