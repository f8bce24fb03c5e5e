-- Runs of stores: one after another, one inside another, and stores of words into the bytes of words.
use Rattle.std.specs.Prelude.{◌≡◌, ℕ, zero, suc, ◌+◌, ◌*◌, ◌^◌, ◌<◌, ◌≤◌, List, [], ◌∷◌, ◌++◌, length, slice_index, slice_index_or, slice_set, refl}
use Rattle.std.proofs.Math.Path.{sym, ap}
use Rattle.std.proofs.Common.{◌∙◌, append_assoc, append-nil, length-set, set-set, get_or-set_same, get_or-set_other}
use native.Mathlib.Omega.{arith}
use Rattle.std.proofs.Math.Seq.{sets}
use Rattle.std.proofs.lemmas.List.{set_comm}
use Rattle.window.specs.Word.{word_in, set_word_in}
use Rattle.window.specs.Bytes.{byte_of}
use Rattle.register.specs.Words.{bytes_of, flat, words_in, word_row}
use Rattle.register.specs.Buffers.{Below, length-flat, words-flat}

pub sets_append : (l : List ℕ) (i : ℕ) (vs us : List ℕ) → sets l i (vs ++ us) ≡ sets (sets l i vs) (i + length vs) us
sets_append l i [] us = let z : i + 0 ≡ i = omega arith in rw z
sets_append l i (v ∷ vs) us = let z : i + suc (length vs) ≡ suc i + length vs = omega arith in rw z (sets_append (slice_set l i v) (suc i) vs us)

pub set_before : (l : List ℕ) (i : ℕ) (vs : List ℕ) (j a : ℕ) → j < i → slice_set (sets l i vs) j a ≡ sets (slice_set l j a) i vs
set_before l i [] j a h = refl
set_before l i (v ∷ vs) j a h =
    set_before (slice_set l i v) (suc i) vs j a (omega arith) ∙ ap (λ t. sets t (suc i) vs) (set_comm l i j v a (λ e. omega arith))

-- a run before another
pub sets_before : (l : List ℕ) (i : ℕ) (vs : List ℕ) (j : ℕ) (us : List ℕ) → j + length us ≤ i → sets (sets l i vs) j us ≡ sets (sets l j us) i vs
sets_before l i vs j [] h = refl
sets_before l i vs j (u ∷ us) h =
    ap (λ t. sets t (suc j) us) (set_before l i vs j u (omega arith)) ∙ sets_before (slice_set l j u) i vs (suc j) us (omega arith)

-- a run over a shorter one
pub sets_over : (l : List ℕ) (i : ℕ) (vs us : List ℕ) → length vs ≤ length us → sets (sets l i vs) i us ≡ sets l i us
sets_over l i [] us h = refl
sets_over l i (v ∷ vs) [] h = absurd (omega arith)
sets_over l i (v ∷ vs) (u ∷ us) h =
    ap (λ t. sets t (suc i) us) (set_before (slice_set l i v) (suc i) vs i u (omega arith) ∙ ap (λ t. sets t (suc i) vs) (set-set l i v u))
    ∙ sets_over (slice_set l i u) (suc i) vs us (omega arith)

set-inside : (l : List ℕ) (o : ℕ) (bs : List ℕ) (i a : ℕ) → i < length bs → slice_set (sets l o bs) (o + i) a ≡ sets l o (slice_set bs i a)
set-inside l o [] i a h = absurd (omega arith)
set-inside l o (b ∷ bs) zero a h =
    let z : o + 0 ≡ o = omega arith in
    rw z (set_before (slice_set l o b) (suc o) bs o a (omega arith) ∙ ap (λ t. sets t (suc o) bs) (set-set l o b a))
set-inside l o (b ∷ bs) (suc i) a h =
    let z : o + suc i ≡ suc o + i = omega arith in
    rw z (set-inside (slice_set l o b) (suc o) bs i a (omega arith))

pub sets_inside
    : (l : List ℕ) (o : ℕ) (bs : List ℕ) (i : ℕ) (cs : List ℕ) → i + length cs ≤ length bs → sets (sets l o bs) (o + i) cs ≡ sets l o (sets bs i cs)
sets_inside l o bs i [] h = refl
sets_inside l o bs i (c ∷ cs) h =
    let z : suc (o + i) ≡ o + suc i = omega arith in
    let s : length (slice_set bs i c) ≡ length bs = length-set bs i c in
    rw (set-inside l o bs i c (omega arith), z) (sets_inside l o (slice_set bs i c) (suc i) cs (omega arith))

pub get_d_below : (l : List ℕ) (i : ℕ) (vs : List ℕ) (j : ℕ) → j < i → slice_index (sets l i vs) j ≡ slice_index l j
get_d_below l i [] j h = refl
get_d_below l i (v ∷ vs) j h = get_d_below (slice_set l i v) (suc i) vs j (omega arith) ∙ get_or-set_other l i j v 0 (λ e. omega arith)

pub get_d_above : (l : List ℕ) (i : ℕ) (vs : List ℕ) (j : ℕ) → i + length vs ≤ j → slice_index (sets l i vs) j ≡ slice_index l j
get_d_above l i [] j h = refl
get_d_above l i (v ∷ vs) j h = get_d_above (slice_set l i v) (suc i) vs j (omega arith) ∙ get_or-set_other l i j v 0 (λ e. omega arith)

-- what stands in a run of stores
pub get_d_sets : (l : List ℕ) (o : ℕ) (bs : List ℕ) (i : ℕ) → o + length bs ≤ length l → i < length bs → slice_index (sets l o bs) (o + i) ≡ slice_index bs i
get_d_sets l o [] i h g = absurd (omega arith)
get_d_sets l o (b ∷ bs) zero h g =
    let z : o + 0 ≡ o = omega arith in
    rw z (get_d_below (slice_set l o b) (suc o) bs o (omega arith) ∙ get_or-set_same l o b 0 (omega arith))
get_d_sets l o (b ∷ bs) (suc i) h g =
    let z : o + suc i ≡ suc o + i = omega arith in
    let s : length (slice_set l o b) ≡ length l = length-set l o b in
    rw z (get_d_sets (slice_set l o b) (suc o) bs i (omega arith) (omega arith))

pub word_below : (l : List ℕ) (o : ℕ) (bs : List ℕ) (i : ℕ) → i + 4 ≤ o → word_in (sets l o bs) i ≡ word_in l i
unfolding word_in
word_below l o bs i h =
    rw (
      get_d_below l o bs i (omega arith),
      get_d_below l o bs (i + 1) (omega arith),
      get_d_below l o bs (i + 2) (omega arith),
      get_d_below l o bs (i + 3) (omega arith),
    )

-- a word's store is a run of four

pub store_word : (l : List ℕ) (i v : ℕ) → set_word_in l i v ≡ sets l i (bytes_of v)
unfolding set_word_in bytes_of byte_of
store_word l i v =
    let e₁ : i + 1 ≡ suc i = omega arith in
    let e₂ : i + 2 ≡ suc (suc i) = omega arith in
    let e₃ : i + 3 ≡ suc (suc (suc i)) = omega arith in
    rw (e₁, e₂, e₃)

sets_cons : (a : ℕ) (l : List ℕ) (i : ℕ) (vs : List ℕ) → sets (a ∷ l) (suc i) vs ≡ a ∷ sets l i vs
sets_cons a l i [] = refl
sets_cons a l i (v ∷ vs) = sets_cons a (slice_set l i v) (suc i) vs

sets_four
    : (a b c d : ℕ) (l : List ℕ) (i : ℕ) (vs : List ℕ)
    → sets (a ∷ b ∷ c ∷ d ∷ l) (suc (suc (suc (suc i)))) vs ≡ a ∷ b ∷ c ∷ d ∷ sets l i vs
sets_four a b c d l i vs =
    sets_cons a (b ∷ c ∷ d ∷ l) (suc (suc (suc i))) vs
    ∙ ap (λ t. a ∷ t) (sets_cons b (c ∷ d ∷ l) (suc (suc i)) vs)
    ∙ ap (λ t. a ∷ b ∷ t) (sets_cons c (d ∷ l) (suc i) vs)
    ∙ ap (λ t. a ∷ b ∷ c ∷ t) (sets_cons d l i vs)

pub flat-set : (ws : List ℕ) (i v : ℕ) → i < length ws → sets (flat ws) (4 * i) (bytes_of v) ≡ flat (slice_set ws i v)
unfolding flat bytes_of
flat-set [] i v h = absurd (omega arith)
flat-set (w ∷ ws) zero v h = refl
flat-set (w ∷ ws) (suc i) v h =
    let s : 4 * suc i ≡ suc (suc (suc (suc (4 * i)))) = omega arith in
    rw s
    (sets_four (byte_of 0 w) (byte_of 1 w) (byte_of 2 w) (byte_of 3 w) (flat ws) (4 * i) (bytes_of v)
    ∙ ap (λ t. byte_of 0 w ∷ byte_of 1 w ∷ byte_of 2 w ∷ byte_of 3 w ∷ t) (flat-set ws i v (omega arith)))

pub flat_append : (a b : List ℕ) → flat (a ++ b) ≡ flat a ++ flat b
unfolding flat
flat_append [] b = refl
flat_append (v ∷ a) b = ap (λ t. bytes_of v ++ t) (flat_append a b) ∙ sym (append_assoc (bytes_of v) (flat a) (flat b))

pub four_inside : {n m : ℕ} (i v : ℕ) → m ≡ 4 * n → i < n → 4 * i + length (bytes_of v) ≤ m
unfolding bytes_of
four_inside i v e h = omega arith

pub words_of : (ws : List ℕ) → Below (2 ^ 32) ws → words_in (flat ws) ≡ ws
unfolding words_in
words_of ws b = ap words_in (sym (append-nil (flat ws))) ∙ words-flat ws [] b ∙ append-nil ws

-- words laid over a buffer from o on: pushed at their end, changed, and read

module _ (l : List ℕ) (o : ℕ) (ws : List ℕ) where
  abbrev pub laid : List ℕ
  laid = sets l o (flat ws)

  pub push_laid : (v : ℕ) → set_word_in laid (o + 4 * length ws) v ≡ sets l o (flat (ws ++ (v ∷ [])))
  unfolding flat
  push_laid v =
      let n : o + length (flat ws) ≡ o + 4 * length ws = ap (λ t. o + t) (length-flat ws) in
      store_word laid (o + 4 * length ws) v
      ∙ sym (rw (flat_append ws (v ∷ []), append-nil) (sets_append l o (flat ws) (bytes_of v) ∙ ap (λ t. sets laid t (bytes_of v)) n))

  pub change-laid : (i v : ℕ) → i < length ws → set_word_in laid (o + 4 * i) v ≡ sets l o (flat (slice_set ws i v))
  change-laid i v h =
      let n : length (flat ws) ≡ 4 * length ws = length-flat ws in
      store_word laid (o + 4 * i) v
      ∙ sets_inside l o (flat ws) (4 * i) (bytes_of v) (four_inside i v n h)
      ∙ ap (sets l o) (flat-set ws i v h)

  pub word-laid : (i : ℕ) → o + 4 * length ws ≤ length l → Below (2 ^ 32) ws → i < length ws → word_in laid (o + 4 * i) ≡ slice_index ws i
  unfolding word_in
  word-laid i h b g =
      let n : length (flat ws) ≡ 4 * length ws = length-flat ws in
      let at : (k : ℕ) → k < 4 → slice_index laid (o + 4 * i + k) ≡ slice_index_or (flat ws) (4 * i + k) 0 =
      λ k m. let z : o + 4 * i + k ≡ o + (4 * i + k) = omega arith in rw z (get_d_sets l o (flat ws) (4 * i + k) (omega arith) (omega arith)) in
      let z₁ : o + 4 * i + 0 ≡ o + 4 * i = omega arith in
      let z₂ : 4 * i + 0 ≡ 4 * i = omega arith in
      let b₀ : slice_index_or laid (o + 4 * i) 0 ≡ slice_index_or (flat ws) (4 * i) 0 = rw (z₁, z₂) at (at 0 (omega arith)) in
      rw (b₀, at 1 (omega arith), at 2 (omega arith), at 3 (omega arith)) (word_row (flat ws) i (omega arith) ∙ ap (λ t. slice_index t i) (words_of ws b))

-- two stores, one after another
pub two-words
    : (l : List ℕ) (o a₁ a₂ : ℕ) {w₁ w₂ : List ℕ} → w₁ ≡ set_word_in l o a₁ → w₂ ≡ set_word_in w₁ (o + 4) a₂ → w₂ ≡ sets l o (flat (a₁ ∷ a₂ ∷ []))
unfolding flat
two-words l o a₁ a₂ {w₁} p₁ p₂ =
    let z : o + 0 ≡ o = omega arith in
    let e₁ : w₁ ≡ sets l o (flat (a₁ ∷ [])) = p₁ ∙ ap (λ t. set_word_in l t a₁) (sym z) ∙ push_laid l o [] a₁ in
    p₂ ∙ ap (λ t. set_word_in t (o + 4) a₂) e₁ ∙ push_laid l o (a₁ ∷ []) a₂

-- three
pub three-words
    : (l : List ℕ) (o a₁ a₂ a₃ : ℕ) {w₁ w₂ w₃ : List ℕ} → w₁ ≡ set_word_in l o a₁ → w₂ ≡ set_word_in w₁ (o + 4) a₂ → w₃ ≡ set_word_in w₂ (o + 8) a₃
    → w₃ ≡ sets l o (flat (a₁ ∷ a₂ ∷ a₃ ∷ []))
unfolding flat
three-words l o a₁ a₂ a₃ p₁ p₂ p₃ =
    p₃ ∙ ap (λ t. set_word_in t (o + 8) a₃) (two-words l o a₁ a₂ p₁ p₂) ∙ push_laid l o (a₁ ∷ a₂ ∷ []) a₃

-- eight stores, one after another
pub eight_words
    : (l : List ℕ) (o a₁ a₂ a₃ a₄ a₅ a₆ a₇ a₈ : ℕ) {w₁ w₂ w₃ w₄ w₅ w₆ w₇ w₈ : List ℕ} → w₁ ≡ set_word_in l o a₁ → w₂ ≡ set_word_in w₁ (o + 4) a₂
    → w₃ ≡ set_word_in w₂ (o + 8) a₃ → w₄ ≡ set_word_in w₃ (o + 12) a₄ → w₅ ≡ set_word_in w₄ (o + 16) a₅ → w₆ ≡ set_word_in w₅ (o + 20) a₆
    → w₇ ≡ set_word_in w₆ (o + 24) a₇ → w₈ ≡ set_word_in w₇ (o + 28) a₈
    → w₈ ≡ sets l o (flat (a₁ ∷ a₂ ∷ a₃ ∷ a₄ ∷ a₅ ∷ a₆ ∷ a₇ ∷ a₈ ∷ []))
unfolding flat
eight_words l o a₁ a₂ a₃ a₄ a₅ a₆ a₇ a₈ {w₃ = w₃} {w₄ = w₄} {w₅ = w₅} {w₆ = w₆} {w₇ = w₇} p₁ p₂ p₃ p₄ p₅ p₆ p₇ p₈ =
    let e₃ : w₃ ≡ sets l o (flat (a₁ ∷ a₂ ∷ a₃ ∷ [])) = three-words l o a₁ a₂ a₃ p₁ p₂ p₃ in
    let e₄ : w₄ ≡ sets l o (flat (a₁ ∷ a₂ ∷ a₃ ∷ a₄ ∷ [])) = p₄ ∙ ap (λ t. set_word_in t (o + 12) a₄) e₃ ∙ push_laid l o (a₁ ∷ a₂ ∷ a₃ ∷ []) a₄ in
    let e₅ : w₅ ≡ sets l o (flat (a₁ ∷ a₂ ∷ a₃ ∷ a₄ ∷ a₅ ∷ [])) =
    p₅ ∙ ap (λ t. set_word_in t (o + 16) a₅) e₄ ∙ push_laid l o (a₁ ∷ a₂ ∷ a₃ ∷ a₄ ∷ []) a₅ in
    let e₆ : w₆ ≡ sets l o (flat (a₁ ∷ a₂ ∷ a₃ ∷ a₄ ∷ a₅ ∷ a₆ ∷ [])) =
    p₆ ∙ ap (λ t. set_word_in t (o + 20) a₆) e₅ ∙ push_laid l o (a₁ ∷ a₂ ∷ a₃ ∷ a₄ ∷ a₅ ∷ []) a₆ in
    let e₇ : w₇ ≡ sets l o (flat (a₁ ∷ a₂ ∷ a₃ ∷ a₄ ∷ a₅ ∷ a₆ ∷ a₇ ∷ [])) =
    p₇ ∙ ap (λ t. set_word_in t (o + 24) a₇) e₆ ∙ push_laid l o (a₁ ∷ a₂ ∷ a₃ ∷ a₄ ∷ a₅ ∷ a₆ ∷ []) a₇ in
    p₈ ∙ ap (λ t. set_word_in t (o + 28) a₈) e₇ ∙ push_laid l o (a₁ ∷ a₂ ∷ a₃ ∷ a₄ ∷ a₅ ∷ a₆ ∷ a₇ ∷ []) a₈
