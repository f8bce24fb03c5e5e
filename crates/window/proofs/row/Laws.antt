-- From the code's tests to `row_of`; an access inside, by place, is the access at its address, and leaves no touch.
use Rattle.std.proofs.Common.{◌≡◌, ℕ, ◌+◌, ◌-◌, ◌^◌, ◌<◌, ◌≤◌, List, length, get_or, refl, arith, le-leb, Some, None}
use borrow.Author.Tests.{lt-leb}
use Rattle.window.specs.Memory.{place}
use Rattle.window.specs.Bytes.{place-small}
use Rattle.window.specs.Word.{word_in, set_word_in}
use Rattle.window.specs.Access.{get8, get32, put32}
use Rattle.window.specs.Trace.{saw, run_t}
use Rattle.window.specs.Row.{row_of, Stands}
use Rattle.window.proofs.Laws.{byte_in, row_word, row_put}
use Rattle.window.proofs.TraceLaws.{read8_is, read32_is, write32_is, row_in, saw_in, saw_byte_in}

module _ (at n x count : ℕ) {p : ℕ} (e : p ≡ place at x) where
  pub row_wraps : 2 ^ 32 - p < count → None ≡ row_of at n x count
  unfolding row_of
  row_wraps h = rw (← e, lt-leb (p + count) (2 ^ 32) (omega arith))

  module _ (low : count ≤ 2 ^ 32 - p) where
    low_sum : p + count ≤ 2 ^ 32
    low_sum = omega (arith, e, place-small at x)

    pub row_ends : n < p + count → None ≡ row_of at n x count
    unfolding row_of
    row_ends h = rw (← e, le-leb (p + count) (2 ^ 32) low_sum, lt-leb (p + count) n h)

    pub row-there : p + count ≤ n → Some p ≡ row_of at n x count
    unfolding row_of
    row-there h = rw (← e, le-leb (p + count) (2 ^ 32) low_sum, le-leb (p + count) n h)

module _ (at : ℕ) (w : List ℕ) (x i : ℕ) where
  pub byte_there : Stands at (length w) x 1 i → (t : List ℕ) → (get_or w i 0, (w, t)) ≡ run_t at (get8 x) (w, t)
  byte_there s t = read8_is at w t x (byte_in at w x i s.0) (saw_byte_in at (length w) x t s.0 (omega (arith, s.2)))

  module _ (s : Stands at (length w) x 4 i) (t : List ℕ) where
    saw_none : t ≡ saw at (length w) x 4 t
    saw_none = saw_in at (length w) x 4 t (row_in at (length w) x i s.0 s.1 s.2) refl

    pub word-there : (word_in w i, (w, t)) ≡ run_t at (get32 x) (w, t)
    word-there = read32_is at w t x (row_word at w x i s.0 s.1) saw_none

    pub put-there : (v : ℕ) → (set_word_in w i v, t) ≡ (run_t at (put32 x v) (w, t)).1
    put-there v = write32_is at w t x v (row_put at w x i s.0 s.1 v) saw_none
