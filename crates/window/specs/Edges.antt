-- The window's edges in plain addresses: what is inside, and what a write across an edge stores.
use Rattle.std.specs.Prelude.{◌≡◌, ℕ, ◌+◌, ◌/◌, ◌%◌, ◌^◌, ◌<◌, ◌≤◌, true, false, List, length, ◌==◌, nat_lt, refl}
use Rattle.std.proofs.Common.{sym, ◌∙◌, eqb-true, ltb-true, leb-true}
use native.Mathlib.Omega.{arith}
use Rattle.window.specs.Tests.{both}
use Rattle.window.specs.Memory.{◌⊕◌, place, inside, put_byte, put_bytes, put_word, put_privileged, good_window}
use Rattle.window.specs.Bytes.{byte_of, inside_yes, inside_no, place-small, place_on, put_byte-value, put_bytes-mod, put_bytes-outside}
use Rattle.window.specs.Bytes.{put_upward-cut, put_privileged-outside}

-- Document 01: "Address and length are multiples of 4,096, length above 0, end at most 2^32."
pub good_means
    : (at : ℕ) (w : List ℕ) → good_window at w ≡ true
    → (at % 4096 ≡ 0) × (length w % 4096 ≡ 0) × (0 < length w) × (at + length w ≤ 2 ^ 32)
unfolding good_window
good_means at w e =
    let a = both (at % 4096 == 0) _ e in
    let b = both (length w % 4096 == 0) _ a.1 in
    let c = both (nat_lt 0 (length w)) _ b.1 in
    (eqb-true _ _ a.0, eqb-true _ _ b.0, ltb-true _ _ c.0, leb-true _ _ c.1)

pub good_end : (at : ℕ) (w : List ℕ) → good_window at w ≡ true → at + length w ≤ 2 ^ 32
good_end at w e = (good_means at w e).3

-- such a window has a page, and leaves a page unless it has all addresses
pub good_page : (at : ℕ) (w : List ℕ) → good_window at w ≡ true → 4096 ≤ length w
good_page at w e = let g = good_means at w e in omega arith

pub good_gap : (at : ℕ) (w : List ℕ) → good_window at w ≡ true → length w < 2 ^ 32 → length w + 4096 ≤ 2 ^ 32
good_gap at w e h = let g = good_means at w e in omega arith

-- in a window that ends at most at 2 ^ 32, the addresses inside are those from its first one up to its end
module _ (at : ℕ) (w : List ℕ) (x : ℕ) (end : at + length w ≤ 2 ^ 32) (low : x < 2 ^ 32) where
  pub inside-from : place at x < length w → (at ≤ x) × (x < at + length w)
  unfolding place
  inside-from h = (omega arith, omega arith)

  pub inside_to : at ≤ x → x < at + length w → place at x < length w
  unfolding place
  inside_to h g = omega arith

-- Document 01, of a privileged write: "Begun two bytes below the window it writes nothing; an ordinary write stores its upper two."
-- A good window has `gap` by `good_gap`, but for the window of all addresses, which has nothing below it.
module _ (at : ℕ) (w : List ℕ) (x v : ℕ) (below : x ⊕ 2 ≡ at) (gap : length w + 2 ≤ 2 ^ 32) where
  below_first : length w ≤ place at x
  unfolding place
  below_first = omega arith

  below_second : length w ≤ place at (x + 1)
  unfolding place
  below_second = omega arith

  pub two_below_privileged : put_privileged at w x v ≡ w
  two_below_privileged = put_privileged-outside at w x v below_first

  pub two_below_ordinary : put_word at w x v ≡ put_byte at (put_byte at w at (byte_of 2 v)) (at + 1) (byte_of 3 v)
  unfolding put_word put_bytes byte_of
  two_below_ordinary =
      let e : x + 1 + 1 ≡ x + 2 = omega arith in
      put_bytes-outside 3 at w x v below_first
      ∙ put_bytes-outside 2 at w (x + 1) (v / 256) below_second
      ∙ rw e (sym (put_bytes-mod 2 at w (x + 2) (v / 256 / 256)) ∙ rw below (simp put_byte-value))

-- begun n bytes before the end, a privileged write stores the lowest n
pub before_end_privileged
    : (n at : ℕ) (w : List ℕ) (x v : ℕ) → n ≤ 4 → place at x + n ≡ length w → length w < 2 ^ 32
    → put_privileged at w x v ≡ put_bytes n at w x v
unfolding put_privileged
before_end_privileged n at w x v l e h =
    put_upward-cut 4 n at w x v l
    (λ k g. rw (place_on at x k (omega arith)) (omega arith))
    (λ g. rw (place_on at x n (omega arith)) (omega arith))

-- a window that starts at 0 and does not reach 0xfffffffe: a word written there goes on at 0
module _ (w : List ℕ) (v : ℕ) (gap : length w + 2 ≤ 2 ^ 32) where
  pub wrapped_ordinary : put_word 0 w 0xffff_fffe v ≡ put_byte 0 (put_byte 0 w 0 (byte_of 2 v)) 1 (byte_of 3 v)
  wrapped_ordinary = two_below_ordinary 0 w 0xffff_fffe v refl gap

  pub wrapped_privileged : put_privileged 0 w 0xffff_fffe v ≡ w
  wrapped_privileged = two_below_privileged 0 w 0xffff_fffe v refl gap

-- a window that ends at 2 ^ 32 and does not hold 0
module _ (at : ℕ) (w : List ℕ) (end : at + length w ≡ 2 ^ 32) (above : 0 < at) where
  pub top_outside : inside at w (0xffff_ffff + 1) ≡ false
  unfolding place
  top_outside = inside_no at w (0xffff_ffff + 1) (omega arith)

  pub top_privileged : (v : ℕ) → 2 ≤ length w → put_privileged at w 0xffff_fffe v ≡ put_bytes 2 at w 0xffff_fffe v
  unfolding place
  top_privileged v two = before_end_privileged 2 at w 0xffff_fffe v (omega arith) (omega arith) (omega arith)

-- the window of all addresses
pub full_inside : (at : ℕ) (w : List ℕ) (x : ℕ) → length w ≡ 2 ^ 32 → inside at w x ≡ true
full_inside at w x e = inside_yes at w x (rw e (place-small at x))
