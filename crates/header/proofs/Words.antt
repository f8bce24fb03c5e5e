-- The lines: their offsets, and their names as the words of one text.
use Prim.Native.Nat.{ℕ, zero, suc, ◌+◌, ◌*◌, ◌-◌, ◌≤◌, ◌<◌}
use Prim.Native.String.{String}
use mathlib.Core.Path.{◌≡◌, refl}
use mathlib.Core.Logic.{◌≢◌}
use mathlib.Core.Bool.{Bool, true, not, ◌&&◌}
use mathlib.Core.List.{List, [], ◌∷◌, ◌++◌}
use native.Mathlib.Omega.{arith}
use native.Mathlib.Numerals.{add-one}
use lib.ListN.{length, take, drop, get_or, length-append}
use lib.Seq.{drop-cons, take-append_seam, drop-append-add}
use lib.Dec.{eqb}
use borrow.Author.Tests.{eq-eqb, ne_eqb, eqb-true, not-true}
use Rattle.window.specs.Tests.{both}
use Rattle.text.specs.Text.{bytes}
use Rattle.header.specs.Lines.{header_lines, line_at, words_length}

-- offsets that go up by four from x on
abbrev pub steps : ℕ → List (String × ℕ) → Bool
steps x [] = true
steps x (p ∷ ps) = eqb p.1 x && steps (x + 4) ps

pub in_steps
    : (x : ℕ) (ps : List (String × ℕ)) (k : ℕ) → steps x ps ≡ true → k < length ps → (get_or ps k ("", 0)).1 ≡ x + 4 * k
in_steps x [] k e h = absurd (omega arith)
in_steps x (p ∷ ps) zero e h = omega (arith, eqb-true p.1 x (both (eqb p.1 x) (steps (x + 4) ps) e).0)
in_steps x (p ∷ ps) (suc k) e h =
    omega (arith, in_steps (x + 4) ps k (both (eqb p.1 x) (steps (x + 4) ps) e).1 (omega arith))

-- one byte more of a text

pub words_none : (k : ℕ) → words_length k [] ≡ 0
unfolding words_length
words_none zero = refl
words_none (suc k) = refl

module _ (text : List ℕ) (i : ℕ) (h : i < length text) where
  pub words_space
      : (k : ℕ) → k ≢ 0 → get_or text i 0 ≡ 32 → words_length k (drop i text) ≡ suc (words_length (k - 1) (drop (i + 1) text))
  unfolding words_length
  words_space zero n e = absurd (n refl)
  words_space (suc k) n e =
      let f : suc k - 1 ≡ k = omega arith in
      rw (f, add-one, drop-cons text i 0 h, eq-eqb (get_or text i 0) 32 e)

  pub words_on
      : (k : ℕ) → k ≢ 0 → get_or text i 0 ≢ 32 → words_length k (drop i text) ≡ suc (words_length k (drop (i + 1) text))
  unfolding words_length
  words_on zero n e = absurd (n refl)
  words_on (suc k) n e = rw (add-one, drop-cons text i 0 h, ne_eqb (get_or text i 0) 32 e)

-- the names as one text

abbrev pub word : String → List ℕ
word s = bytes s ++ bytes " "

abbrev pub names : List (String × ℕ) → List ℕ
names [] = []
names (p ∷ ps) = word p.0 ++ names ps

abbrev pub no_space : List ℕ → Bool
no_space [] = true
no_space (b ∷ l) = not (eqb b 32) && no_space l

abbrev pub plain : List (String × ℕ) → Bool
plain [] = true
plain (p ∷ ps) = no_space (bytes p.0) && plain ps

-- the first word, and what comes after it
word_first
    : (s t : List ℕ) (k : ℕ) → no_space s ≡ true
    → words_length (suc k) (s ++ bytes " " ++ t) ≡ length (s ++ bytes " ") + words_length k t
unfolding words_length bytes
word_first [] t k e = omega arith
word_first (b ∷ s) t k e =
    let f = both (not (eqb b 32)) (no_space s) e in
    rw (not-true (eqb b 32) f.0, word_first s t k f.1) (omega arith)

-- w stands in l from place a to place b
abbrev pub StandsBetween : List ℕ → List ℕ → ℕ → ℕ → Type 0
StandsBetween w l a b = (a ≤ b) × (b ≤ length l) × (take (b - a) (drop a l) ≡ w)

further : (p l w : List ℕ) (a b : ℕ) → StandsBetween w l a b → StandsBetween w (p ++ l) (length p + a) (length p + b)
further p l w a b s =
    let d : length p + b - (length p + a) ≡ b - a = omega arith in
    (omega arith, simp length-append (omega arith), rw (d, drop-append-add p l a) s.2)

-- name k stands after the k names before it
named
    : (ps : List (String × ℕ)) (k : ℕ) → plain ps ≡ true → k < length ps
    → StandsBetween (word (get_or ps k ("", 0)).0) (names ps) (words_length k (names ps)) (words_length (suc k) (names ps))
unfolding words_length
named [] k e h = absurd (omega arith)
named (p ∷ ps) zero e h =
    let w = word p.0 in
    let f = word_first (bytes p.0) (names ps) 0 (both (no_space (bytes p.0)) (plain ps) e).0 in
    let g : length w + 0 - 0 ≡ length w = omega arith in
    rw f (omega arith, simp length-append (omega arith), rw g (take-append_seam w (names ps)))
named (p ∷ ps) (suc k) e h =
    let b = both (no_space (bytes p.0)) (plain ps) e in
    rw (word_first (bytes p.0) (names ps) k b.0, word_first (bytes p.0) (names ps) (suc k) b.0)
    (further (word p.0) (names ps) _ (words_length k (names ps)) _ (named ps k b.1 (omega arith)))

pub line_name
    : (k : ℕ) {a b : ℕ} → k < 42 → a ≡ words_length k (names header_lines) → b ≡ words_length (k + 1) (names header_lines)
    → StandsBetween (word (line_at k).0) (names header_lines) a b
unfolding header_lines line_at bytes
line_name k h f g = rw (f, g, add-one) (named header_lines k refl h)
