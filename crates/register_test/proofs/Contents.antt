-- The contents' five conditions, one after another: what the test answers when one fails, and when all but the last hold.
use Prim.Native.Nat.{ℕ, ◌-◌, ◌*◌}
use mathlib.Core.Path.{◌≡◌, sym, ap, ◌∙◌}
use mathlib.Core.List.{List}
use mathlib.Core.Bool.{Bool, true, false}
use lib.ListN.{take, drop}
use Rattle.register.specs.Words.{part, words_in, all_zero}
use Rattle.register.specs.Check.{modules_ok, slots_ok, contents_ok}

-- what the tests of modules and of slots answered about the count that they were given
pub modules_are : {m n : ℕ} (ws names : List ℕ) {t b : Bool} → m ≡ n → t ≡ modules_ok m ws names 0 → t ≡ b → modules_ok n ws names 0 ≡ b
modules_are ws names e a z = ap (λ m. modules_ok m ws names 0) (sym e) ∙ (sym a ∙ z)

pub slots_are : {m n : ℕ} (missing : List ℕ) {t b : Bool} → m ≡ n → t ≡ slots_ok m missing → t ≡ b → slots_ok n missing ≡ b
slots_are missing e a z = ap (λ m. slots_ok m missing) (sym e) ∙ (sym a ∙ z)

module _ (n used named k : ℕ) (records names missing : List ℕ) where
  abbrev ModulesAnswer : Bool → Type 0
  ModulesAnswer b = modules_ok n (words_in (take (used - 32) (drop 32 records))) (take named names) 0 ≡ b

  pub modules_wrong : ModulesAnswer false → false ≡ contents_ok n used named k records names missing
  unfolding contents_ok part
  modules_wrong m = rw m

  pub slots-wrong : ModulesAnswer true → slots_ok k missing ≡ false → false ≡ contents_ok n used named k records names missing
  unfolding contents_ok part
  slots-wrong m s = rw (m, s)

  pub records-wrong
      : ModulesAnswer true → slots_ok k missing ≡ true → all_zero (drop used records) ≡ false → false ≡ contents_ok n used named k records names missing
  unfolding contents_ok part
  records-wrong m s r = rw (m, s, r)

  pub names-wrong
      : ModulesAnswer true → slots_ok k missing ≡ true → all_zero (drop used records) ≡ true → all_zero (drop named names) ≡ false
      → false ≡ contents_ok n used named k records names missing
  unfolding contents_ok part
  names-wrong m s r q = rw (m, s, r, q)

  pub contents_right
      : ModulesAnswer true → slots_ok k missing ≡ true → all_zero (drop used records) ≡ true → all_zero (drop named names) ≡ true
      → all_zero (drop (514 * k) missing) ≡ contents_ok n used named k records names missing
  unfolding contents_ok part
  contents_right m s r q = rw (m, s, r, q)
