-- Words at the end of a list and past it, and a segment's three words.
use Prim.Native.Nat.{ℕ, ◌+◌, ◌*◌, ◌≤◌}
use mathlib.Core.Path.{◌≡◌, refl}
use mathlib.Core.List.{List}
use native.Mathlib.Omega.{arith}
use lib.ListN.{length, get_or, get_or-eq_default}
use Rattle.window.specs.Mirror.{word}
use Rattle.window.specs.Word.{word_in}
use Rattle.writer_spec.specs.Description.{file_of}

pub word-past : (b : List ℕ) (o : ℕ) → length b ≤ o → 0 ≡ word (file_of b) o
unfolding word file_of
word-past b o past =
    omega (
      arith,
      get_or-eq_default b 0 {n = o} past,
      get_or-eq_default b 0 {n = o + 1} (omega arith),
      get_or-eq_default b 0 {n = o + 2} (omega arith),
      get_or-eq_default b 0 {n = o + 3} (omega arith),
    )

pub word-one : (b : List ℕ) (o : ℕ) → length b ≤ o + 1 → get_or b o 0 ≡ word (file_of b) o
unfolding word file_of
word-one b o past =
    omega (
      arith,
      get_or-eq_default b 0 {n = o + 1} past,
      get_or-eq_default b 0 {n = o + 2} (omega arith),
      get_or-eq_default b 0 {n = o + 3} (omega arith),
    )

pub word_two : (b : List ℕ) (o : ℕ) → length b ≤ o + 2 → get_or b o 0 + 256 * get_or b (o + 1) 0 ≡ word (file_of b) o
unfolding word file_of
word_two b o past = omega (arith, get_or-eq_default b 0 {n = o + 2} past, get_or-eq_default b 0 {n = o + 3} (omega arith))

pub word-three
    : (b : List ℕ) (o : ℕ) → length b ≤ o + 3 → get_or b o 0 + 256 * (get_or b (o + 1) 0 + 256 * get_or b (o + 2) 0) ≡ word (file_of b) o
unfolding word file_of
word-three b o past = omega (arith, get_or-eq_default b 0 {n = o + 3} past)

pub word-inside : (b : List ℕ) (o : ℕ) → word_in b o ≡ word (file_of b) o
unfolding word_in word file_of
word-inside b o = refl
