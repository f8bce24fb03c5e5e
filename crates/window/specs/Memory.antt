-- Document 01, "memory/mod.rs: the window": "The window is a lent byte slice and its first address."
-- Here `at` is the first address and `w` the list of the bytes. Every number is an address: the one that it is modulo 2 ^ 32.
use Rattle.std.specs.Prelude.{if◌then◌else◌, ℕ, zero, suc, ◌+◌, ◌-◌, ◌*◌, ◌/◌, ◌%◌, ◌^◌, Bool, ◌&&◌, List, length, ◌==◌, nat_le, nat_lt, slice_index, slice_set}

infixl 60 ◌⊕◌
infixl 60 ◌⊖◌
-- "Every address sum wraps at 2^32."
abbrev pub ◌⊕◌ : ℕ → ℕ → ℕ
◌⊕◌ a b = (a + b) % 2 ^ 32

-- and so does a difference
abbrev pub ◌⊖◌ : ℕ → ℕ → ℕ
◌⊖◌ a b = (a + (2 ^ 32 - b % 2 ^ 32)) % 2 ^ 32

-- "Address and length are multiples of 4,096, length above 0, end at most 2^32."
unfoldable pub good_window : ℕ → List ℕ → Bool
good_window at w =
    (at % 4096 == 0) && (length w % 4096 == 0 && (nat_lt 0 (length w) && nat_le (at + length w) (2 ^ 32)))

-- where the address x stands among the bytes; at or past their number it is outside
unfoldable pub place : ℕ → ℕ → ℕ
place at x = x ⊖ at

unfoldable pub inside : ℕ → List ℕ → ℕ → Bool
inside at w x = nat_lt (place at x) (length w)

-- "A read takes bytes outside as 0."
unfoldable pub byte_at : ℕ → List ℕ → ℕ → ℕ
byte_at at w x = slice_index w (place at x)

-- "A word is four bytes, lowest first."
unfoldable pub word_at : ℕ → List ℕ → ℕ → ℕ
word_at at w x = byte_at at w x + 256 * (byte_at at w (x + 1) + 256 * (byte_at at w (x + 2) + 256 * byte_at at w (x + 3)))

-- one byte stored, or dropped where x is outside
unfoldable pub put_byte : (at : ℕ) → List ℕ → (x v : ℕ) → List ℕ
put_byte at w x v = slice_set w (place at x) (v % 256)

-- "An ordinary word write stores the bytes inside and drops the rest": the n lowest bytes of v, from x on
unfoldable pub put_bytes : (count at : ℕ) → List ℕ → (x v : ℕ) → List ℕ
put_bytes zero at w x v = w
put_bytes (suc n) at w x v = put_bytes n at (put_byte at w x v) (x + 1) (v / 256)

unfoldable pub put_word : (at : ℕ) → List ℕ → (x v : ℕ) → List ℕ
put_word at w x v = put_bytes 4 at w x v

-- "A privileged write, used for relocated words, goes upward and stops at the first byte outside."
unfoldable pub put_upward : (count at : ℕ) → List ℕ → (x v : ℕ) → List ℕ
put_upward zero at w x v = w
put_upward (suc n) at w x v =
    if inside at w x then put_upward n at (put_byte at w x v) (x + 1) (v / 256) else w

unfoldable pub put_privileged : (at : ℕ) → List ℕ → (x v : ℕ) → List ℕ
put_privileged at w x v = put_upward 4 at w x v
