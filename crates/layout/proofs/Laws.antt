-- From the code's products, differences and table reads to the definitions.
use Rattle.std.proofs.Common.{◌≡◌, ℕ, zero, suc, ◌+◌, ◌*◌, ◌%◌, ◌^◌, ◌<◌, List, [], ◌∷◌, ◌++◌, get_or, sym, ◌∙◌, lt_of_le_of_lt, le_of_lt, mul-le-mul_left, mul-lt-mul_of_pos_right, arith, lit<, get_or-append-add}
use lib.ListN.{get_or-replicate, get_or-append}
use Rattle.window.specs.Memory.{◌⊖◌}
use Rattle.layout.specs.Tables.{no_table, pointer_words}
use Rattle.layout.specs.declared.tables.PointerTable.{PointerTable}

pub product_fits : {a b : ℕ} → a < 2 ^ 32 → b < 2 ^ 32 → a * b < 2 ^ 64
product_fits {a} {b} ha hb = lt_of_le_of_lt (mul-le-mul_left a (le_of_lt hb)) (mul-lt-mul_of_pos_right ha (lit< tt))

-- a difference that wraps, as the library states it
pub difference : (r a b : ℕ) → r < 2 ^ 32 → (r + b) % 2 ^ 32 ≡ a → r ≡ a ⊖ b
difference r a b l e = omega arith

-- a flat table of rows of seven words: word k of row i stands at i * 7 + k

abbrev pub flat : List PointerTable → List ℕ
flat [] = []
flat (t ∷ ts) = pointer_words t ++ flat ts

pub no_word : (k : ℕ) → k < 7 → 0 ≡ get_or (pointer_words no_table) k 0
no_word k h = sym (get_or-replicate {A = ℕ} 7 k 0 0 h)

pub row_word
    : (ts : List PointerTable) (i k : ℕ) → k < 7 → get_or (flat ts) (i * 7 + k) 0 ≡ get_or (pointer_words (get_or ts i no_table)) k 0
row_word [] i k h = no_word k h
row_word (t ∷ ts) zero k h =
    let e : 0 * 7 + k ≡ k = omega arith in
    rw e (get_or-append (pointer_words t) (flat ts) 0 k h)
row_word (t ∷ ts) (suc i) k h =
    let e : suc i * 7 + k ≡ 7 + (i * 7 + k) = omega arith in
    rw e (get_or-append-add (pointer_words t) (flat ts) (i * 7 + k) 0 ∙ row_word ts i k h)
