-- What the proofs of several modules cite: the bound of words, and tests of each number of a range.
use Rattle.std.specs.List.{range_with_len, list_all, list_any}
use Prim.Native.Nat.{ℕ, zero, suc, ◌+◌, ◌-◌, ◌^◌, ◌<◌}
use mathlib.Core.Path.{◌≡◌, refl, sym, ◌∙◌, ap}
use mathlib.Core.List.{List, [], ◌∷◌}
use mathlib.Core.Bool.{Bool, true, false, not, ◌&&◌, ◌||◌}
use native.Mathlib.Omega.{arith}
use lib.ListN.{get_or}
use Rattle.window.specs.Mirror.{word}
use Rattle.writer_spec.specs.All.{all_below, all_same}
use Rattle.writer_spec.specs.Description.{file_of}

-- a list of bytes
abbrev pub Bytes : List ℕ → Type 0
Bytes b = (i : ℕ) → get_or b i 0 < 256

pub word_fits : (b : List ℕ) → Bytes b → (o : ℕ) → word (file_of b) o < 2 ^ 32
unfolding word file_of
word_fits b small o = omega (arith, small o, small (o + 1), small (o + 2), small (o + 3))

-- `(a..b).all(test)` and `(a..b).any(test)`, as the library has them, against a test of each number below n
all_first : (n : ℕ) (test : ℕ → Bool) → all_below (suc n) test ≡ (test 0 && all_below n (λ i. test (suc i)))
unfolding all_below
all_first zero test = refl
all_first (suc n) test =
    ap (λ b. test (suc n) && b) (all_first n test) ∙ swapped (test (suc n)) (test 0) (all_below n (λ i. test (suc i)))
  where
    swapped : (a b c : Bool) → (a && (b && c)) ≡ (b && (a && c))
    swapped true true c = refl
    swapped true false c = refl
    swapped false true c = refl
    swapped false false c = refl

pub all_from : (n a : ℕ) (test : ℕ → Bool) → list_all test (range_with_len a n) ≡ all_below n (λ i. test (a + i))
unfolding all_below
all_from zero a test = refl
all_from (suc n) a test =
    ap (λ b. test a && b) (all_from n (a + 1) test ∙ all_same n _ _ (λ i l. ap test (omega arith)))
    ∙ (ap (λ k. test k && all_below n (λ i. test (a + suc i))) (omega arith) ∙ sym (all_first n (λ i. test (a + i))))

pub all_to : (n : ℕ) (test : ℕ → Bool) → list_all test (range_with_len 0 (n - 0)) ≡ all_below n test
all_to n test =
    let whole : n - 0 ≡ n = omega arith in
    rw whole (all_from n 0 test ∙ all_same n _ _ (λ i l. ap test (omega arith)))

pub any_is : (test : ℕ → Bool) (l : List ℕ) → list_any test l ≡ not (list_all (λ i. not (test i)) l)
any_is test [] = refl
any_is test (x ∷ xs) = ap (λ b. test x || b) (any_is test xs) ∙ neither (test x) (list_all (λ i. not (test i)) xs)
  where
    neither : (a b : Bool) → (a || not b) ≡ not (not a && b)
    neither true b = refl
    neither false b = refl
