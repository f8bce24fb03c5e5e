-- From the code's accesses and notes to `run_t`.
use Rattle.std.proofs.Common.{◌≡◌, ℕ, suc, ◌+◌, ◌%◌, ◌^◌, ◌<◌, ◌≤◌, Bool, true, false, not, ◌&&◌, eqb, leb, List, length, sym, refl, ap, ◌∙◌, arith, lit<, le-ltb, lt-ltb}
use Rattle.window.specs.Memory.{place, byte_at, word_at, put_byte, put_word, put_privileged}
use Rattle.window.specs.Bytes.{place_on, place-mod}
use Rattle.window.specs.Access.{get8, get32, put8, put32, put32_privileged}
use Rattle.window.proofs.Laws.{out_row, out_word, out_put}
use Rattle.window.specs.Trace.{outside, said, noted, saw, touch_of, rd8, rd32, wr8, store_t, run_t, wr32-put, wr_p-put}

-- whether a byte of an access is outside

module _ (at n : ℕ) where
  pub outside_here : (x k : ℕ) → n ≤ place at x → outside at n x (suc k) ≡ true
  unfolding outside
  outside_here x k h = rw (le-ltb (place at x) n h)

  pub outside-next : (x k : ℕ) → place at x < n → outside at n x (suc k) ≡ outside at n (x + 1) k
  unfolding outside
  outside-next x k h = rw (lt-ltb (place at x) n h)

  pub outside_none : (x : ℕ) → outside at n x 0 ≡ false
  unfolding outside
  outside_none x = refl

  module _ (x : ℕ) {i₀ : ℕ} (p₀ : i₀ ≡ place at x) where
    pub word_out : n ≤ i₀ → true ≡ outside at n x 4
    word_out h = sym (outside_here x 3 (rw (← p₀) h))

    module _ {x₁ i₁ : ℕ} (h₀ : i₀ < n) (e₁ : x₁ ≡ (x + 1) % 2 ^ 32) (p₁ : i₁ ≡ place at x₁) where
      q₁ : i₁ ≡ place at (x + 1)
      q₁ = p₁ ∙ ap (place at) e₁ ∙ place-mod at (x + 1)

      step₁ : outside at n x 4 ≡ outside at n (x + 1) 3
      step₁ = outside-next x 3 (rw (← p₀) h₀)

      pub word_out₁ : n ≤ i₁ → true ≡ outside at n x 4
      word_out₁ h = sym (step₁ ∙ outside_here (x + 1) 2 (rw (← q₁) h))

      module _ {x₂ i₂ : ℕ} (h₁ : i₁ < n) (e₂ : x₂ ≡ (x + 2) % 2 ^ 32) (p₂ : i₂ ≡ place at x₂) where
        q₂ : i₂ ≡ place at (x + 1 + 1)
        q₂ = let e : x + 1 + 1 ≡ x + 2 = omega arith in rw e (p₂ ∙ ap (place at) e₂ ∙ place-mod at (x + 2))

        step₂ : outside at n x 4 ≡ outside at n (x + 1 + 1) 2
        step₂ = step₁ ∙ outside-next (x + 1) 2 (rw (← q₁) h₁)

        pub word_out₂ : n ≤ i₂ → true ≡ outside at n x 4
        word_out₂ h = sym (step₂ ∙ outside_here (x + 1 + 1) 1 (rw (← q₂) h))

        module _ {x₃ i₃ : ℕ} (h₂ : i₂ < n) (e₃ : x₃ ≡ (x + 3) % 2 ^ 32) (p₃ : i₃ ≡ place at x₃) where
          q₃ : i₃ ≡ place at (x + 1 + 1 + 1)
          q₃ = let e : x + 1 + 1 + 1 ≡ x + 3 = omega arith in rw e (p₃ ∙ ap (place at) e₃ ∙ place-mod at (x + 3))

          step₃ : outside at n x 4 ≡ outside at n (x + 1 + 1 + 1) 1
          step₃ = step₂ ∙ outside-next (x + 1 + 1) 1 (rw (← q₂) h₂)

          pub word_out₃ : n ≤ i₃ → true ≡ outside at n x 4
          word_out₃ h = sym (step₃ ∙ outside_here (x + 1 + 1 + 1) 0 (rw (← q₃) h))

          pub word_in : i₃ < n → false ≡ outside at n x 4
          word_in h = sym (step₃ ∙ outside-next (x + 1 + 1 + 1) 0 (rw (← q₃) h) ∙ outside_none (x + 1 + 1 + 1 + 1))

  -- a word in a row
  pub row_in : (x i : ℕ) → i ≡ place at x → i + 4 ≤ 2 ^ 32 → i + 4 ≤ n → false ≡ outside at n x 4
  row_in x i e h g =
      let p : (k : ℕ) → k < 4 → i + k ≡ place at ((x + k) % 2 ^ 32) =
      λ k l. rw e (sym (place-mod at (x + k) ∙ place_on at x k (omega (arith, e)))) in
      word_in x e (omega arith) refl (p 1 (lit< tt)) (omega arith) refl (p 2 (lit< tt)) (omega arith) refl (p 3 (lit< tt)) (omega arith)

  -- what an access leaves of the trace

  pub saw_in : (x k : ℕ) (t : List ℕ) {b : Bool} → b ≡ outside at n x k → b ≡ false → t ≡ saw at n x k t
  unfolding saw
  saw_in x k t e f = rw (← e, f)

  pub saw_out : (x k : ℕ) (t : List ℕ) {b : Bool} {v : List ℕ} → b ≡ outside at n x k → b ≡ true → v ≡ noted x t → v ≡ saw at n x k t
  unfolding saw
  saw_out x k t e f h = rw (← e, f) h

  pub saw_byte_in : (x : ℕ) (t : List ℕ) {i : ℕ} → i ≡ place at x → i < n → t ≡ saw at n x 1 t
  saw_byte_in x t e h = saw_in x 1 t (sym (outside-next x 0 (rw (← e) h) ∙ outside_none (x + 1))) refl

  pub saw_byte_out : (x : ℕ) (t : List ℕ) {i : ℕ} {v : List ℕ} → i ≡ place at x → n ≤ i → v ≡ noted x t → v ≡ saw at n x 1 t
  saw_byte_out x t e h = saw_out x 1 t (sym (outside_here x 0 (rw (← e) h))) refl

-- a note

pub said_is : (t : List ℕ) {v : ℕ} → v ≡ word_at 0 t 4 → not (eqb v 0) ≡ said t
unfolding said
said_is t e = rw e

pub touched_is : (t : List ℕ) {v : ℕ} → v ≡ word_at 0 t 4 → v ≡ (touch_of t).0
unfolding touch_of
touched_is t e = e

pub first_is : (t : List ℕ) {v : ℕ} → v ≡ word_at 0 t 8 → v ≡ (touch_of t).1
unfolding touch_of
first_is t e = e

module _ (x : ℕ) (t : List ℕ) {b : Bool} (e : b ≡ said t) where
  pub note_had : b ≡ true → t ≡ noted x t
  unfolding noted
  note_had y = rw (← e, y)

  pub note_new : {u v : List ℕ} → b ≡ false → u ≡ put_word 0 t 4 1 → v ≡ put_word 0 u 8 x → v ≡ noted x t
  unfolding noted
  note_new n h g = rw (← e, n, ← h) g

-- the accesses

module _ (at : ℕ) (w t : List ℕ) (x : ℕ) {u : List ℕ} where
  pub read8_is : {r : ℕ} → r ≡ byte_at at w x → u ≡ saw at (length w) x 1 t → (r, (w, u)) ≡ run_t at (get8 x) (w, t)
  unfolding run_t rd8
  read8_is e h = rw (e, h)

  pub read32_is : {r : ℕ} → r ≡ word_at at w x → u ≡ saw at (length w) x 4 t → (r, (w, u)) ≡ run_t at (get32 x) (w, t)
  unfolding run_t rd32
  read32_is e h = rw (e, h)

  pub write8_is : (v : ℕ) {w₁ : List ℕ} → w₁ ≡ put_byte at w x v → u ≡ saw at (length w) x 1 t → (w₁, u) ≡ (run_t at (put8 x v) (w, t)).1
  unfolding run_t wr8 store_t
  write8_is v e h = rw (e, h)

  pub write32_is : (v : ℕ) {w₁ : List ℕ} → w₁ ≡ put_word at w x v → u ≡ saw at (length w) x 4 t → (w₁, u) ≡ (run_t at (put32 x v) (w, t)).1
  unfolding run_t
  write32_is v e h = rw (e, h) (sym (wr32-put at w t x v))

  pub write_p_is
      : (v : ℕ) {w₁ : List ℕ} → w₁ ≡ put_privileged at w x v → u ≡ saw at (length w) x 4 t → (w₁, u) ≡ (run_t at (put32_privileged x v) (w, t)).1
  unfolding run_t
  write_p_is v e h = rw (e, h) (sym (wr_p-put at w t x v))

-- a word all outside, as `all_outside` tests it
module _ (at : ℕ) (w t : List ℕ) (x : ℕ) {i : ℕ} (e : i ≡ place at x) {r : Bool}
    (test : r ≡ (leb i 0xffff_fffc && leb (length w) i)) (yes : r ≡ true) {u : List ℕ} (h : u ≡ noted x t) where
  row : (i + 4 ≤ 2 ^ 32) × (length w ≤ i)
  row = out_row i (length w) test yes

  out_saw : u ≡ saw at (length w) x 4 t
  out_saw = saw_out at (length w) x 4 t (word_out at (length w) x e row.1) refl h

  pub read32_out : (0, (w, u)) ≡ run_t at (get32 x) (w, t)
  read32_out = read32_is at w t x (out_word at w x i e row.0 row.1) out_saw

  pub write32_out : (v : ℕ) → (w, u) ≡ (run_t at (put32 x v) (w, t)).1
  write32_out v = write32_is at w t x v (out_put at w x i e row.0 row.1 v) out_saw
