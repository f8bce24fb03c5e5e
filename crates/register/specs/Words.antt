-- Little-endian 32-bit words and lists of bytes.
use Rattle.std.specs.Prelude.{◌≡◌, ℕ, zero, suc, ◌+◌, ◌*◌, ◌/◌, ◌<◌, Bool, true, false, ◌&&◌, List, [], ◌∷◌, ◌++◌, length, take, drop, ◌==◌, slice_index, refl}
use Rattle.std.proofs.Common.{ap, ◌∙◌, arith}
use Rattle.window.specs.Bytes.{byte_of, join}
use Rattle.window.specs.Word.{word_in}

-- l bytes from o on
unfoldable pub part : List ℕ → ℕ → ℕ → List ℕ
part bytes o l = take l (drop o bytes)

-- two lists are the same
unfoldable pub same : List ℕ → List ℕ → Bool
same [] [] = true
same [] (b ∷ t) = false
same (a ∷ s) [] = false
same (a ∷ s) (b ∷ t) = a == b && same s t

unfoldable pub all_zero : List ℕ → Bool
all_zero [] = true
all_zero (b ∷ l) = b == 0 && all_zero l

-- the buffer holds e, and zeros after it
unfoldable pub holds : List ℕ → List ℕ → Bool
holds buffer e = same (take (length e) buffer) e && all_zero (drop (length e) buffer)

-- the bytes of a word, lowest first, and of a list of words
unfoldable pub bytes_of : ℕ → List ℕ
bytes_of v = byte_of 0 v ∷ byte_of 1 v ∷ byte_of 2 v ∷ byte_of 3 v ∷ []

unfoldable pub flat : List ℕ → List ℕ
flat [] = []
flat (v ∷ vs) = bytes_of v ++ flat vs

-- the whole words of a list of bytes; up to three bytes are left over
unfoldable pub words_in : List ℕ → List ℕ
words_in [] = []
words_in (a ∷ []) = []
words_in (a ∷ b ∷ []) = []
words_in (a ∷ b ∷ c ∷ []) = []
words_in (a ∷ b ∷ c ∷ d ∷ l) = join a b c d ∷ words_in l

four : (n : ℕ) → 4 * suc n ≡ suc (suc (suc (suc (4 * n))))
four n = omega arith

-- parts at a multiple of four are parts of the words
pub words-drop : (n : ℕ) (l : List ℕ) → words_in (drop (4 * n) l) ≡ drop n (words_in l)
unfolding words_in
words-drop zero l = refl
words-drop (suc n) [] = rw (four n)
words-drop (suc n) (a ∷ []) = rw (four n)
words-drop (suc n) (a ∷ b ∷ []) = rw (four n)
words-drop (suc n) (a ∷ b ∷ c ∷ []) = rw (four n)
words-drop (suc n) (a ∷ b ∷ c ∷ d ∷ l) = rw (four n) (words-drop n l)

pub words_take : (n : ℕ) (l : List ℕ) → words_in (take (4 * n) l) ≡ take n (words_in l)
unfolding words_in
words_take zero l = refl
words_take (suc n) [] = rw (four n)
words_take (suc n) (a ∷ []) = rw (four n)
words_take (suc n) (a ∷ b ∷ []) = rw (four n)
words_take (suc n) (a ∷ b ∷ c ∷ []) = rw (four n)
words_take (suc n) (a ∷ b ∷ c ∷ d ∷ l) = rw (four n) (ap (λ r. join a b c d ∷ r) (words_take n l))

pub length-words : (l : List ℕ) → length (words_in l) ≡ length l / 4
unfolding words_in
length-words [] = refl
length-words (a ∷ []) = refl
length-words (a ∷ b ∷ []) = refl
length-words (a ∷ b ∷ c ∷ []) = refl
length-words (a ∷ b ∷ c ∷ d ∷ l) = let h = length-words l in omega arith

pub word_row : (l : List ℕ) (i : ℕ) → i < length l / 4 → word_in l (4 * i) ≡ slice_index (words_in l) i
unfolding words_in word_in
word_row [] i h = absurd (omega arith)
word_row (a ∷ []) i h = absurd (omega arith)
word_row (a ∷ b ∷ []) i h = absurd (omega arith)
word_row (a ∷ b ∷ c ∷ []) i h = absurd (omega arith)
word_row (a ∷ b ∷ c ∷ d ∷ l) zero h = refl
word_row (a ∷ b ∷ c ∷ d ∷ l) (suc i) h =
    let e₁ : 4 * suc i + 1 ≡ suc (suc (suc (suc (4 * i + 1)))) = omega arith in
    let e₂ : 4 * suc i + 2 ≡ suc (suc (suc (suc (4 * i + 2)))) = omega arith in
    let e₃ : 4 * suc i + 3 ≡ suc (suc (suc (suc (4 * i + 3)))) = omega arith in
    rw (e₁, e₂, e₃, four i) (word_row l i (omega arith))

pub part-words : (l : List ℕ) (o n : ℕ) → words_in (part l (4 * o) (4 * n)) ≡ part (words_in l) o n
unfolding part
part-words l o n = words_take n (drop (4 * o) l) ∙ ap (take n) (words-drop o l)
