-- From the code's tests and stores to the definitions of `Memory`.
use Rattle.std.proofs.Common.{◌≡◌, ℕ, suc, ◌+◌, ◌-◌, ◌/◌, ◌%◌, ◌^◌, ◌<◌, ◌≤◌, Bool, true, ◌&&◌, leb, List, length, get_or, set, sym, ◌∙◌, arith, lit<, leb-true}
use Rattle.window.specs.Tests.{both}
use Rattle.window.specs.Memory.{place, byte_at, word_at, put_byte, put_bytes, put_word, put_upward, put_privileged}
use Rattle.window.specs.Bytes.{join, Whole, place_on, inside_yes, byte_at-mod, byte_at-outside, put_byte-mod, put_byte-value}
use Rattle.window.specs.Bytes.{put_byte-outside, put_bytes-outside, put_upward-mod, put_upward-outside, put_privileged-inside}
use Rattle.window.specs.Word.{word_in, set_word_in}

-- a byte inside and outside, as the code tests it

pub byte_in : (at : ℕ) (w : List ℕ) (x i : ℕ) → i ≡ place at x → get_or w i 0 ≡ byte_at at w x
unfolding byte_at
byte_in at w x i e = cc

pub byte_out : (at : ℕ) (w : List ℕ) (x i : ℕ) → i ≡ place at x → length w ≤ i → 0 ≡ byte_at at w x
byte_out at w x i e h = sym (byte_at-outside at w x (rw (← e) h))

pub put_in : (at : ℕ) (w : List ℕ) (x i v : ℕ) → i ≡ place at x → v < 256 → set w i v ≡ put_byte at w x v
unfolding put_byte
put_in at w x i v e h = let m : v % 256 ≡ v = omega arith in cc

pub put_out : (at : ℕ) (w : List ℕ) (x i v : ℕ) → i ≡ place at x → length w ≤ i → w ≡ put_byte at w x v
put_out at w x i v e h = sym (put_byte-outside at w x v (rw (← e) h))

-- a word whose four bytes stand in a row

-- the range tests that `whole` and `all_outside` make
in_row : (i m n : ℕ) {r : Bool} → r ≡ (leb i 0xffff_fffc && leb m n) → r ≡ true → (i + 4 ≤ 2 ^ 32) × (m ≤ n)
in_row i m n e t =
    let b = both (leb i 0xffff_fffc) (leb m n) (sym e ∙ t) in
    let l : i ≤ 0xffff_fffc = leb-true i 0xffff_fffc b.0 in
    (omega arith, leb-true m n b.1)

pub whole_row : (i n : ℕ) {r : Bool} → r ≡ (leb i 0xffff_fffc && leb (i + 4) n) → r ≡ true → (i + 4 ≤ 2 ^ 32) × (i + 4 ≤ n)
whole_row i n = in_row i (i + 4) n

pub out_row : (i n : ℕ) {r : Bool} → r ≡ (leb i 0xffff_fffc && leb n i) → r ≡ true → (i + 4 ≤ 2 ^ 32) × (n ≤ i)
out_row i n = in_row i n i

module _ (at : ℕ) (w : List ℕ) (x i : ℕ) (e : i ≡ place at x) (h : i + 4 ≤ 2 ^ 32) where
  row : (k : ℕ) → k < 4 → place at (x + k) ≡ i + k
  row k l = rw e (place_on at x k (omega arith))

  pub row_word : word_in w i ≡ word_at at w x
  unfolding word_in word_at byte_at
  row_word = rw (row 1 (lit< tt), row 2 (lit< tt), row 3 (lit< tt), ← e)

  pub row_put : (v : ℕ) → set_word_in w i v ≡ put_word at w x v
  unfolding set_word_in put_word put_bytes put_byte
  row_put v =
      let q₂ : x + 1 + 1 ≡ x + 2 = omega arith in
      let q₃ : x + 2 + 1 ≡ x + 3 = omega arith in
      rw (q₂, q₃, row 1 (lit< tt), row 2 (lit< tt), row 3 (lit< tt), ← e)

  -- all of them outside
  module _ (g : length w ≤ i) where
    out : (k : ℕ) → k < 4 → length w ≤ place at (x + k)
    out k l = rw (row k l) (omega arith)

    pub out_word : 0 ≡ word_at at w x
    unfolding word_at
    out_word =
        let z : x + 0 ≡ x = omega arith in
        let b : (k : ℕ) → k < 4 → byte_at at w (x + k) ≡ 0 = λ k l. byte_at-outside at w (x + k) (out k l) in
        rw (rw z at (b 0 (lit< tt)), b 1 (lit< tt), b 2 (lit< tt), b 3 (lit< tt))

    pub out_put : (v : ℕ) → w ≡ put_word at w x v
    unfolding put_word put_bytes
    out_put v =
        let z : x + 0 ≡ x = omega arith in
        let q₂ : x + 1 + 1 ≡ x + 2 = omega arith in
        let q₃ : x + 1 + 1 + 1 ≡ x + 3 = omega arith in
        sym
        (put_bytes-outside 3 at w x v (rw z at (out 0 (lit< tt)))
        ∙ put_bytes-outside 2 at w (x + 1) _ (out 1 (lit< tt))
        ∙ put_bytes-outside 1 at w (x + 1 + 1) _ (rw q₂ (out 2 (lit< tt)))
        ∙ put_bytes-outside 0 at w (x + 1 + 1 + 1) _ (rw q₃ (out 3 (lit< tt))))

  row-whole : i + 4 ≤ length w → Whole at w x
  row-whole g k l = rw (row k l) (omega arith)

  pub row_privileged : (v : ℕ) → i + 4 ≤ length w → set_word_in w i v ≡ put_privileged at w x v
  row_privileged v g = row_put v ∙ sym (put_privileged-inside at w x v (row-whole g))

-- a word byte by byte

pub word_at-steps
    : (at : ℕ) (w : List ℕ) (x : ℕ) {b₀ b₁ b₂ b₃ x₁ x₂ x₃ : ℕ} → b₀ ≡ byte_at at w x → x₁ ≡ (x + 1) % 2 ^ 32 → b₁ ≡ byte_at at w x₁
    → x₂ ≡ (x + 2) % 2 ^ 32 → b₂ ≡ byte_at at w x₂ → x₃ ≡ (x + 3) % 2 ^ 32 → b₃ ≡ byte_at at w x₃
    → join b₀ b₁ b₂ b₃ ≡ word_at at w x
unfolding word_at
word_at-steps at w x p₀ e₁ p₁ e₂ p₂ e₃ p₃ = rw (p₀, p₁, p₂, p₃, e₁, e₂, e₃) (simp byte_at-mod)

pub put_word-steps
    : (at : ℕ) (w : List ℕ) (x v : ℕ) {w₁ w₂ w₃ w₄ : List ℕ} {x₁ x₂ x₃ : ℕ} → x₁ ≡ (x + 1) % 2 ^ 32 → x₂ ≡ (x + 2) % 2 ^ 32
    → x₃ ≡ (x + 3) % 2 ^ 32 → w₁ ≡ put_byte at w x (v % 256) → w₂ ≡ put_byte at w₁ x₁ (v / 256 % 256)
    → w₃ ≡ put_byte at w₂ x₂ (v / 256 / 256 % 256) → w₄ ≡ put_byte at w₃ x₃ (v / 256 / 256 / 256 % 256) → w₄ ≡ put_word at w x v
unfolding put_word put_bytes
put_word-steps at w x v e₁ e₂ e₃ p₁ p₂ p₃ p₄ =
    let q₂ : x + 1 + 1 ≡ x + 2 = omega arith in
    let q₃ : x + 2 + 1 ≡ x + 3 = omega arith in
    rw (p₄, p₃, p₂, p₁, e₃, e₂, e₁) (simp (put_byte-value, put_byte-mod, q₂, q₃))

-- the stores of a privileged write, n in all, k made

module _ (n k at : ℕ) (w : List ℕ) (x v : ℕ) where
  pub upward_turn
      : {i y : ℕ} → k < n → i ≡ place at x → i < length w → y ≡ (x + 1) % 2 ^ 32
      → put_upward (n - (k + 1)) at (set w i (v % 256)) y (v / 256) ≡ put_upward (n - k) at w x v
  unfolding put_upward
  upward_turn {i} l e h ey =
      let s : n - k ≡ suc (n - (k + 1)) = omega arith in
      let b : v % 256 < 256 = omega arith in
      rw (s, ey, put_in at w x i (v % 256) e b, put_byte-value, put_upward-mod) (simp (inside_yes at w x (rw (← e) h)))

  pub upward_stop : {i : ℕ} → i ≡ place at x → length w ≤ i → w ≡ put_upward (n - k) at w x v
  upward_stop e h = sym (put_upward-outside (n - k) at w x v (rw (← e) h))

  pub upward_done : n ≤ k → w ≡ put_upward (n - k) at w x v
  unfolding put_upward
  upward_done l = let s : n - k ≡ 0 = omega arith in rw s
