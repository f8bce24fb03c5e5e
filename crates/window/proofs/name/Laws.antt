-- From the code's loops over names to the definitions of `Name`.
use Rattle.std.specs.declared.cmp.Ordering.TheVariants.{Less, Equal, Greater}
use Rattle.std.proofs.Common.{◌≡◌, ℕ, zero, suc, ◌+◌, ◌-◌, ◌%◌, ◌^◌, ◌<◌, ◌≤◌, true, leb, ◌≢◌, List, [], ◌∷◌, ◌++◌, length, get_or, take, drop, set, sym, refl, ap, ◌∙◌, append_assoc, append-nil, add-one, arith, take-append-drop, drop_of_length-le, length-take-le, get_or-drop, drop-cons, get_or-take, drop-drop, take-suc-set, drop-set-lt, le-ltb, lt-ltb, eq-eqb, ne_eqb}
use Rattle.std.specs.Ordering.{nat_cmp}
use Rattle.std.specs.Cmp.{nat_cmp_is}
use native.Mathlib.Decide.{ℕ_discrete, dec_lt}
use Rattle.window.specs.Memory.{◌⊕◌, place, byte_at}
use Rattle.window.specs.Tests.{both}
use Rattle.window.specs.Bytes.{place_on, place-add, join}
use Rattle.window.specs.Word.{word_in, high_word_in}
use Rattle.window.specs.Access.{ret, get8, run}
use Rattle.window.specs.Trace.{State, run_t}
use Rattle.window.specs.TraceRuns.{left, given, gives, on_true, on_false}
use Rattle.window.specs.Silent.{reads_run_t}
use Rattle.window.specs.Name.{name_at, name_from, name_at_0, name_some, name-stop, name_on, name_at_reads, name_at-is_name, is_name, no_zero, same-bytes-same-name, laid_over, order_of, turned, order_turned}
use Rattle.window.proofs.Laws.{byte_in}
use Rattle.window.proofs.TraceLaws.{saw_byte_in, read8_is}

pub name_nothing : (at p : ℕ) (s : State) → p ≡ 0 → ([], s) ≡ run_t at (name_at p) s
name_nothing at p s e = rw (e, name_at_0) (given at [] s)

-- a name of at most m bytes, k of them read

-- what is read from here on, behind bytes that were read before
abbrev pub behind : List ℕ → List ℕ × State → List ℕ × State
behind front r = (front ++ r.0, r.1)

module _ (at m k p : ℕ) (s : State) where
  pub name_full : m ≤ k → ([], s) ≡ run_t at (name_from (m - k) p) s
  unfolding name_from
  name_full l = let z : m - k ≡ 0 = omega arith in rw z (given at [] s)

  module _ {b : ℕ} {s₁ : State} (l : k < m) (h : (b, s₁) ≡ run_t at (get8 p) s) where
    pub name_end : b ≡ 0 → ([], s₁) ≡ run_t at (name_from (m - k) p) s
    unfolding name_from
    name_end e =
        let z : m - k ≡ suc (m - (k + 1)) = omega arith in
        rw z (on_true at s₁ (ret []) _ (eq-eqb b 0 e) (given at [] s₁) ∙ gives at (get8 p) s _ h)

    pub name-next
        : {q : ℕ} → (b ≡ 0 → ⊥) → q ≡ (p + 1) % 2 ^ 32
        → behind (b ∷ []) (run_t at (name_from (m - (k + 1)) q) s₁) ≡ run_t at (name_from (m - k) p) s
    unfolding name_from
    name-next n f =
        let z : m - k ≡ suc (m - (k + 1)) = omega arith in
        let r = run_t at (name_from (m - (k + 1)) ((p + 1) % 2 ^ 32)) s₁ in
        rw (z, f)
        (on_false at s₁ (ret []) _ (ne_eqb b 0 n)
        (given at (b ∷ r.0) r.1 ∙ gives at (name_from (m - (k + 1)) ((p + 1) % 2 ^ 32)) s₁ (λ rest. ret (b ∷ rest)) refl)
        ∙ gives at (get8 p) s _ h)

-- the trace keeps nothing of a name whose bytes are inside
name-inside
    : (at n p : ℕ) (w t : List ℕ) → ((k : ℕ) → k < n → place at (p + k) < length w) → (w, t) ≡ left (run_t at (name_from n p) (w, t))
name-inside at zero p w t h = ap left (name_full at 0 0 p (w, t) (omega arith))
name-inside at (suc n) p w t h =
    go (ℕ_discrete (byte_at at w p) 0)
    (name-inside at n (p ⊕ 1) w t
    (λ k l. let e : p + 1 + k ≡ p + suc k = omega arith in rw (place-add at (p + 1) k, e) (h (suc k) (omega arith))))
  where
    here : place at p < length w
    here = let e : p + 0 ≡ p = omega arith in rw e at (h 0 (omega arith))

    all : suc n - 0 ≡ suc n
    all = omega arith

    read : (byte_at at w p, (w, t)) ≡ run_t at (get8 p) (w, t)
    read = read8_is at w t p refl (saw_byte_in at (length w) p t refl here)

    go : Dec (byte_at at w p ≡ 0) → (w, t) ≡ left (run_t at (name_from n (p ⊕ 1)) (w, t)) → (w, t) ≡ left (run_t at (name_from (suc n) p) (w, t))
    go (yes e) ih = rw all at (ap left (name_end at (suc n) 0 p (w, t) (omega arith) read e))
    go (no e) ih =
        let rest : suc n - 1 ≡ n = omega arith in
        ih ∙ rw (all, rest) at (ap left (name-next at (suc n) 0 p (w, t) (omega arith) read e refl))

-- the buffer with n bytes of the name in it

pub laid
    : (n : ℕ) (buffer old : List ℕ) {name : List ℕ} → n ≤ length buffer → take n buffer ++ [] ≡ name → drop n buffer ≡ drop n old
    → ◌≡◌ {A = ℕ × List ℕ} (n, buffer) (laid_over name old)
unfolding laid_over
laid n buffer old l e d =
    let t : take n buffer ≡ _ = sym (append-nil (take n buffer)) ∙ e in
    rw (← t, length-take-le n buffer l, ← d, take-append-drop)

pub all_laid
    : (n : ℕ) (buffer old : List ℕ) {rest r : List ℕ × State} {s : State} → n ≤ length buffer → behind (take n buffer) rest ≡ r
    → ([], s) ≡ rest → drop n buffer ≡ drop n old → ((n, buffer) ≡ laid_over r.0 old) × (s ≡ r.1)
all_laid n buffer old {s = s} l e z d =
    let f = ap (behind (take n buffer)) z ∙ e in
    (laid n buffer old l (ap (λ (r : List ℕ × State). r.0) f) d, ap left f)

-- a name is what it is, whatever its trace
pub laid_peeked
    : (at p : ℕ) (s : State) (old : List ℕ) {r : ℕ × List ℕ} → r ≡ laid_over (run_t at (name_at p) s).0 old
    → r ≡ laid_over (run at (name_at p) s.0).0 old
laid_peeked at p s old h = h ∙ ap (λ name. laid_over name old) (reads_run_t at (name_at p) s (name_at_reads p)).0

pub laid_byte
    : (n : ℕ) (buffer : List ℕ) (b : ℕ) (rest : List ℕ) → n < length buffer
    → take (n + 1) (set buffer n b) ++ rest ≡ take n buffer ++ (b ∷ rest)
laid_byte n buffer b rest l = rw (add-one, take-suc-set buffer n b l, append_assoc)

pub laid-turn
    : (n : ℕ) (buffer : List ℕ) (b : ℕ) (rest : List ℕ × State) → n < length buffer
    → behind (take (n + 1) (set buffer n b)) rest ≡ behind (take n buffer) (behind (b ∷ []) rest)
laid-turn n buffer b rest l = ap (λ front. (front, rest.1)) (laid_byte n buffer b rest.0 l)

pub laid-rest
    : (n : ℕ) (buffer old : List ℕ) (b : ℕ) → drop n buffer ≡ drop n old → drop (n + 1) (set buffer n b) ≡ drop (n + 1) old
laid-rest n buffer old b e =
    drop-set-lt (n + 1) buffer n b (omega arith) ∙ sym (drop-drop 1 n buffer) ∙ ap (drop 1) e ∙ drop-drop 1 n old

-- a name at the start of a list, n of its bytes read

module _ (w : List ℕ) (n : ℕ) where
  start_byte : n < 512 → get_or w n 0 ≡ byte_at 0 w n
  unfolding place
  start_byte l = byte_in 0 w n n (omega arith)

  pub start_full : 512 ≤ n → [] ≡ (run 0 (name_from (512 - n) n) w).0
  unfolding name_from run
  start_full l = let z : 512 - n ≡ 0 = omega arith in rw z

  pub start_end : n < 512 → get_or w n 0 ≡ 0 → [] ≡ (run 0 (name_from (512 - n) n) w).0
  start_end l e =
      let z : 512 - n ≡ suc (512 - (n + 1)) = omega arith in
      rw z (sym (name-stop 0 (512 - (n + 1)) n w (sym (start_byte l) ∙ e)))

  pub start-next
      : n < 512 → (get_or w n 0 ≡ 0 → ⊥) → get_or w n 0 ∷ (run 0 (name_from (512 - (n + 1)) (n + 1)) w).0 ≡ (run 0 (name_from (512 - n) n) w).0
  start-next l e =
      let z : 512 - n ≡ suc (512 - (n + 1)) = omega arith in
      let q : n ⊕ 1 ≡ n + 1 = omega arith in
      rw (z, start_byte l) (rw q at (sym (name_on 0 (512 - (n + 1)) n w (λ y. e (start_byte l ∙ y)))))

-- 512 bytes in a row inside, from place i on
module _ (at p : ℕ) (w t : List ℕ) {i : ℕ} (e : i ≡ place at p) (h : i + 512 ≤ 2 ^ 32) (g : i + 512 ≤ length w) (n : p ≡ 0 → ⊥) where
  row-place : (k : ℕ) → k < 512 → i + k ≡ place at (p + k)
  row-place k l = rw e (sym (place_on at p k (omega (arith, e))))

  pub row_inside : (w, t) ≡ left (run_t at (name_at p) (w, t))
  row_inside = rw (name_some p n) (name-inside at 512 p w t (λ k l. rw (← row-place k l) (omega arith)))

  row_byte : (k : ℕ) → k < 512 → byte_at at w (p + k) ≡ byte_at 0 (take (length w - i) (drop i w)) (0 + k)
  row_byte k l =
      let z : 0 + k ≡ k = omega arith in
      let v = take (length w - i) (drop i w) in
      let m : k < length w - i = omega arith in
      sym (byte_in at w (p + k) (i + k) (row-place k l))
      ∙ sym (get_or-drop i w k 0)
      ∙ sym (get_or-take (length w - i) (drop i w) k 0 m)
      ∙ rw z (start_byte v k l)

  pub row_laid
      : (old : List ℕ) {r : ℕ × List ℕ} → r ≡ laid_over (run 0 (name_from 512 0) (take (length w - i) (drop i w))).0 old
      → r ≡ laid_over (run_t at (name_at p) (w, t)).0 old
  row_laid old f =
      let v = take (length w - i) (drop i w) in
      f
      ∙ ap (λ name. laid_over name old)
      (sym
      ((reads_run_t at (name_at p) (w, t) (name_at_reads p)).0
      ∙ rw (name_some p n) (same-bytes-same-name at 0 w v 512 p 0 row_byte)))

-- the order of what is left from place i on

module _ (a b : List ℕ) (i : ℕ) where
  pub order_after : i < length a → length b ≤ i → Greater ≡ order_of (drop i a) (drop i b)
  unfolding order_of
  order_after l h = rw (drop-cons a i 0 l, drop_of_length-le b h)

  pub order_less : i < length a → i < length b → get_or a i 0 < get_or b i 0 → Less ≡ order_of (drop i a) (drop i b)
  unfolding order_of
  order_less l m h = rw (drop-cons a i 0 l, drop-cons b i 0 m) (simp (lt-ltb _ _ h))

  pub order_more
      : i < length a → i < length b → get_or b i 0 ≤ get_or a i 0 → get_or b i 0 < get_or a i 0 → Greater ≡ order_of (drop i a) (drop i b)
  unfolding order_of
  order_more l m g h = rw (drop-cons a i 0 l, drop-cons b i 0 m) (simp (le-ltb _ _ g, lt-ltb _ _ h))

  pub order_on
      : i < length a → i < length b → get_or b i 0 ≤ get_or a i 0 → get_or a i 0 ≤ get_or b i 0
      → order_of (drop (i + 1) a) (drop (i + 1) b) ≡ order_of (drop i a) (drop i b)
  unfolding order_of
  order_on l m g h = rw (drop-cons a i 0 l, drop-cons b i 0 m, add-one) (simp (le-ltb _ _ g, le-ltb _ _ h))

  pub order_shorter : length a ≤ i → i < length b → Less ≡ order_of (drop i a) (drop i b)
  unfolding order_of
  order_shorter l m = rw (drop_of_length-le a l, drop-cons b i 0 m)

  pub order_end : length a ≤ i → length b ≤ i → Equal ≡ order_of (drop i a) (drop i b)
  unfolding order_of
  order_end l m = rw (drop_of_length-le a l, drop_of_length-le b m)

  -- two bytes that differ stand in the order of the names
  pub order_differs
      : i < length a → i < length b → get_or a i 0 ≢ get_or b i 0
      → nat_cmp (get_or a i 0) (get_or b i 0) ≡ order_of (drop i a) (drop i b)
  order_differs l m n = go (dec_lt (get_or a i 0) (get_or b i 0))
    where
      go : Dec (get_or a i 0 < get_or b i 0) → nat_cmp (get_or a i 0) (get_or b i 0) ≡ order_of (drop i a) (drop i b)
      go (yes y) = sym (nat_cmp_is _ _ Less y) ∙ order_less l m y
      go (no k) =
          let y : get_or b i 0 < get_or a i 0 = omega arith in
          sym (nat_cmp_is _ _ Greater y) ∙ order_more l m (omega arith) y

  -- at the end of one of the names, their lengths do
  pub order_lengths
      : i ≤ length a → i ≤ length b → (i < length a → length b ≤ i) → nat_cmp (length a) (length b) ≡ order_of (drop i a) (drop i b)
  order_lengths l m h = go (dec_lt i (length b)) (dec_lt i (length a))
    where
      go : Dec (i < length b) → Dec (i < length a) → nat_cmp (length a) (length b) ≡ order_of (drop i a) (drop i b)
      go (yes y) (yes x) = absurd (omega (arith, h x))
      go (yes y) (no x) = sym (nat_cmp_is (length a) (length b) Less (omega arith)) ∙ order_shorter (omega arith) y
      go (no y) (yes x) = sym (nat_cmp_is (length a) (length b) Greater (omega arith)) ∙ order_after x (omega arith)
      go (no y) (no x) = sym (nat_cmp_is (length a) (length b) Equal (omega arith)) ∙ order_end (omega arith) (omega arith)

-- a word of both, whose bytes are below 256

-- a byte decides, or what follows it
order_first
    : (a b : List ℕ) (i j : ℕ) → j ≡ i + 1 → i < length a → i < length b → get_or a i 0 ≤ get_or b i 0
    → (get_or a i 0 ≡ get_or b i 0 → Less ≡ order_of (drop j a) (drop j b)) → Less ≡ order_of (drop i a) (drop i b)
order_first a b i j e l m h rest = go (dec_lt (get_or a i 0) (get_or b i 0))
  where
    go : Dec (get_or a i 0 < get_or b i 0) → Less ≡ order_of (drop i a) (drop i b)
    go (yes y) = order_less a b i l m y
    go (no n) =
        let s : get_or a i 0 ≡ get_or b i 0 = omega arith in
        rw e at (rest s) ∙ order_on a b i l m (omega arith) (omega arith)

module _ (a b : List ℕ) (i : ℕ) (small-a : (k : ℕ) → get_or a k 0 < 256) (small_b : (k : ℕ) → get_or b k 0 < 256) where
  pub same_bytes
      : (i₀ i₁ i₂ i₃ : ℕ)
      → join (get_or a i₀ 0) (get_or a i₁ 0) (get_or a i₂ 0) (get_or a i₃ 0) ≡ join (get_or b i₀ 0) (get_or b i₁ 0) (get_or b i₂ 0) (get_or b i₃ 0)
      → (get_or a i₀ 0 ≡ get_or b i₀ 0) × (get_or a i₁ 0 ≡ get_or b i₁ 0) × (get_or a i₂ 0 ≡ get_or b i₂ 0) × (get_or a i₃ 0 ≡ get_or b i₃ 0)
  same_bytes i₀ i₁ i₂ i₃ e =
      let a₀ = small-a i₀ in
      let a₁ = small-a i₁ in
      let a₂ = small-a i₂ in
      let a₃ = small-a i₃ in
      let b₀ = small_b i₀ in
      let b₁ = small_b i₁ in
      let b₂ = small_b i₂ in
      let b₃ = small_b i₃ in
      (omega arith, omega arith, omega arith, omega arith)

  -- the same in both
  pub order_word
      : i + 4 ≤ length a → i + 4 ≤ length b → word_in a i ≡ word_in b i
      → order_of (drop (i + 4) a) (drop (i + 4) b) ≡ order_of (drop i a) (drop i b)
  unfolding word_in
  order_word l m e =
      let s = same_bytes i (i + 1) (i + 2) (i + 3) e in
      let q₂ : i + 1 + 1 ≡ i + 2 = omega arith in
      let q₃ : i + 2 + 1 ≡ i + 3 = omega arith in
      let q₄ : i + 3 + 1 ≡ i + 4 = omega arith in
      rw q₄ at (order_on a b (i + 3) (omega arith) (omega arith) (omega (arith, s.3)) (omega (arith, s.3)))
      ∙ rw q₃ at (order_on a b (i + 2) (omega arith) (omega arith) (omega (arith, s.2)) (omega (arith, s.2)))
      ∙ rw q₂ at (order_on a b (i + 1) (omega arith) (omega arith) (omega (arith, s.1)) (omega (arith, s.1)))
      ∙ order_on a b i (omega arith) (omega arith) (omega (arith, s.0)) (omega (arith, s.0))

  -- not the same: the numbers, highest byte first, stand in the order of the bytes
  order_high : i + 4 ≤ length a → i + 4 ≤ length b → high_word_in a i < high_word_in b i → Less ≡ order_of (drop i a) (drop i b)
  unfolding high_word_in
  order_high l m h =
      let a₁ = small-a (i + 1) in
      let a₂ = small-a (i + 2) in
      let a₃ = small-a (i + 3) in
      let b₁ = small_b (i + 1) in
      let b₂ = small_b (i + 2) in
      let b₃ = small_b (i + 3) in
      order_first a b i (i + 1) refl (omega arith) (omega arith) (omega arith)
      (λ e₀. order_first a b (i + 1) (i + 2) (omega arith) (omega arith) (omega arith) (omega arith)
      (λ e₁. order_first a b (i + 2) (i + 3) (omega arith) (omega arith) (omega arith) (omega arith)
      (λ e₂. order_less a b (i + 3) (omega arith) (omega arith) (omega arith))))

  pub high_differs : word_in a i ≢ word_in b i → high_word_in a i ≢ high_word_in b i
  unfolding word_in high_word_in
  high_differs n e = let s = same_bytes (i + 3) (i + 2) (i + 1) i e in n (rw (s.0, s.1, s.2, s.3))

  pub word_before
      : i + 4 ≤ length a → i + 4 ≤ length b → word_in a i ≢ word_in b i → high_word_in a i ≤ high_word_in b i
      → Less ≡ order_of (drop i a) (drop i b)
  word_before l m n h = order_high l m (omega (arith, high_differs n))

pub word_after
    : (a b : List ℕ) (i : ℕ) → ((k : ℕ) → get_or a k 0 < 256) → ((k : ℕ) → get_or b k 0 < 256) → i + 4 ≤ length a → i + 4 ≤ length b
    → high_word_in b i < high_word_in a i → Greater ≡ order_of (drop i a) (drop i b)
word_after a b i small-a small_b l m h =
    ap turned (order_high b a i small_b small-a m l h) ∙ sym (order_turned (drop i b) (drop i a))

-- a name that was read has no zero
pub read_no_zero : (at p : ℕ) (w : List ℕ) → no_zero (run at (name_at p) w).0 ≡ true
unfolding is_name
read_no_zero at p w = (both (leb (length (run at (name_at p) w).0) 512) (no_zero (run at (name_at p) w).0) (name_at-is_name at p w)).1
