-- Text in a lent buffer: the bytes of a text, numbers in digits, bytes in pairs of hex digits, and what putting a text leaves.
use Rattle.std.specs.Prelude.{if◌then◌else◌, ℕ, zero, suc, ◌+◌, ◌/◌, ◌%◌, List, [], ◌∷◌, ◌++◌, length, get_or, set, ltb}
use Prim.Native.Char.{code}
use Prim.Native.String.{String, [] as ε, ◌∷◌ as ◌◃◌}

-- the bytes of an ASCII text
unfoldable pub bytes : String → List ℕ
bytes ε = []
bytes (c ◃ s) = code c ∷ bytes s

unfoldable pub digit_of : ℕ → ℕ
digit_of d = get_or (bytes "0123456789abcdef") d 0

-- v in the digits of a radix, in at most n of them and with no leading zero
unfoldable pub digits_in : (radix most v : ℕ) → List ℕ
digits_in radix zero v = []
digits_in radix (suc n) v = if ltb v radix then digit_of v ∷ [] else digits_in radix n (v / radix) ++ (digit_of (v % radix) ∷ [])

-- a word has at most 8 hex digits, and at most 10 decimal ones
unfoldable pub hex_of : ℕ → List ℕ
hex_of v = digits_in 16 8 v

unfoldable pub decimal_of : ℕ → List ℕ
decimal_of v = digits_in 10 10 v

-- "bytes in one run", two hex digits each
unfoldable pub pairs_of : List ℕ → List ℕ
pairs_of [] = []
pairs_of (b ∷ s) = digit_of (b / 16) ∷ digit_of (b % 16) ∷ pairs_of s

-- a text at place i of a buffer, and the place after it; what does not fit is left out
unfoldable pub put : List ℕ → ℕ × List ℕ → ℕ × List ℕ
put [] p = p
put (c ∷ s) (i, l) = put s (if ltb i (length l) then (i + 1, set l i c) else (i, l))
