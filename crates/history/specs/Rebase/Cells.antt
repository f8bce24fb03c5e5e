-- Loops whose turns write each in a cell of its own; and words that are moved.
use Rattle.std.specs.Prelude.{if◌then◌else◌, ℕ, suc, ◌+◌, ◌^◌, ◌≤◌, ◌<◌, ◌≡◌, ◌⊎◌}
use Rattle.std.proofs.Math.Path.{refl, ap}
use Rattle.std.proofs.Common.{◌∙◌, arith, eq-eqb, ne_eqb}
use Rattle.std.proofs.Math.Logic.{inl, inr}
use mathlib.Core.List.{List, [], ◌∷◌}
use Rattle.std.proofs.Math.Bool.{true}
use Rattle.std.proofs.Math.Decide.{ℕ_discrete}
use Rattle.std.proofs.Math.Dec.{eqb}
use Rattle.window.specs.Memory.{◌⊕◌}
use Rattle.window.specs.Bytes.{byte_of, join-bytes, join-at}
use Rattle.window.specs.Access.{Prog, ret, get32, put32}
use Rattle.window.specs.Loop.{loop}
use Rattle.window.specs.Within.{In, Four}
use Rattle.window.specs.Mirror.{word, word_same, put4, put4_on, put4-off}
use Rattle.linker_spec.specs.Rebase.{move_word, move_pointers}
use Rattle.history.specs.LoadedModule.{moved_offset}
use Rattle.history.specs.Steps.Wp.{Memory, Does, SameOutside, does_mono, does_ret, does_then, does_read, does_loop, ends_put32, reads_get32}

-- turn i writes in the cell C i, of whose bytes Q i speaks; M is where the loop starts
module _ (C : ℕ → ℕ → Type 0) (Q : ℕ → Memory → Type 0) (M : Memory) where
  -- the first j turns are made
  pub record TurnsMade (j : ℕ) (N : Memory) : Type 0 where
    pub done : (i : ℕ) → i < j → Q i N
    pub kept : SameOutside (λ q. (i : ℕ) × (i < j) × C i q) M N

  pub none_turned : TurnsMade 0 M
  none_turned = record { done = λ i l. absurd (omega arith); kept = λ q o. refl }

  -- Q i is a matter of the bytes of C i
  abbrev pub Local : ℕ → Type 0
  Local i = (N L : Memory) → ((q : ℕ) → C i q → L q ≡ N q) → Q i N → Q i L

  pub Turned-more
      : (j : ℕ) (N L : Memory) → ((i : ℕ) → i < j → (q : ℕ) → C i q → C j q → ⊥) → ((i : ℕ) → i < j → Local i)
      → TurnsMade j N → Q j L → SameOutside (C j) N L → TurnsMade (suc j) L
  Turned-more j N L apart local t h k =
      record {
        done = λ i l. one i l (ℕ_discrete i j);
        kept = λ q o. k q (λ c. o (j, omega arith, c)) ∙ t.kept q (λ c. o (c.0, omega (arith, c.1), c.2));
      }
    where
      one : (i : ℕ) → i < suc j → Dec (i ≡ j) → Q i L
      one i l (yes e) = rw e h
      one i l (no n) = local i (omega arith) N L (λ q c. k q (apart i (omega arith) q c)) (t.done i (omega arith))

  pub cells
      : (S : ℕ → Type 0) {A : Type 0} (body : ℕ → A → Prog A) (n : ℕ) (a : A)
      → ((i j : ℕ) → i < j → j < n → (q : ℕ) → C i q → C j q → ⊥) → ((i : ℕ) → i < n → Local i)
      → ((j : ℕ) (b : A) (N : Memory) → j < n → TurnsMade j N → Does S (body j b) (λ _ L. Q j L × SameOutside (C j) N L) N)
      → Does S (loop body 0 n a) (λ _ N. TurnsMade n N) M
  cells S body n a apart local turn =
      let z : 0 + n ≡ n = omega arith in
      rw z at
      (does_loop S body (λ j b N. TurnsMade j N) 0 n a M
      (λ j b N z l t.
      does_mono S (turn j b N (omega arith) t)
      (λ c L h. Turned-more j N L (λ i g. apart i j g (omega arith)) (λ i g. local i (omega arith)) t h.0 h.1))
      none_turned)

-- a word that is written, and one that is not
pub put4-word : (M : Memory) (p v : ℕ) → v < 2 ^ 32 → word (put4 M p v) p ≡ v
unfolding word
put4-word M p v l = join-at (put4 M p v) (λ k. byte_of k v) p (put4_on M p v) ∙ join-bytes v ∙ omega arith

pub word-off : (M N : Memory) (X : ℕ → Type 0) (p : ℕ) → SameOutside X M N → ((q : ℕ) → In p 4 q → X q → ⊥) → word N p ≡ word M p
word-off M N X p k o = word_same N M p (λ j l. k (p + j) (o (p + j) (omega arith, omega arith)))

module _ (S : ℕ → Type 0) (base : ℕ) where
  pub moves_word
      : (p : ℕ) {M : Memory} → Four S p → Does S (move_word true base p) (λ _ N. (word N p ≡ moved_offset base (word M p)) × SameOutside (In p 4) M N) M
  unfolding move_word moved_offset
  moves_word p {M} s = does_read S (get32 p) _ (word M p) (reads_get32 S p s refl) (go (ℕ_discrete (word M p) 0))
    where
      go
          : Dec (word M p ≡ 0)
          → Does S (if eqb (word M p) 0 then ret tt else put32 p (word M p ⊕ base))
          (λ _ N. (word N p ≡ (if eqb (word M p) 0 then 0 else word M p ⊕ base)) × SameOutside (In p 4) M N) M
      go (yes e) = rw (eq-eqb (word M p) 0 e) (does_ret S (e, λ q o. refl))
      go (no n) =
          rw (ne_eqb (word M p) 0 n)
          (ends_put32 S p (word M p ⊕ base) s (put4-word M p (word M p ⊕ base) (omega arith), λ q o. put4-off M p (word M p ⊕ base) q o))

-- x is one of a list; its numbers go up by 4 or more
unfoldable pub Member : ℕ → List ℕ → Type 0
Member x [] = ⊥
Member x (y ∷ ys) = (x ≡ y) ⊎ Member x ys

unfoldable pub Spread : List ℕ → Type 0
Spread [] = Unit {0}
Spread (y ∷ ys) = ((x : ℕ) → Member x ys → y + 4 ≤ x) × Spread ys

-- the words at these distances from e
abbrev pub Columns : ℕ → List ℕ → ℕ → Type 0
Columns e xs q = (x : ℕ) × Member x xs × In (e + x) 4 q

module _ (S : ℕ → Type 0) (base e : ℕ) where
  pub moves_columns
      : (xs : List ℕ) (M : Memory) → Spread xs → ((x : ℕ) → Member x xs → Four S (e + x) × (e ⊕ x ≡ e + x))
      → Does S (move_pointers true base e xs)
      (λ _ N. ((x : ℕ) → Member x xs → word N (e + x) ≡ moved_offset base (word M (e + x))) × SameOutside (Columns e xs) M N) M
  unfolding move_pointers Member Spread
  moves_columns [] M s f = does_ret S ((λ x a. absurd a), λ q o. refl)
  moves_columns (y ∷ ys) M s f =
      rw (f y (inl refl)).1
      (does_then S (move_word true base (e + y)) _ (moves_word S base (e + y) (f y (inl refl)).0)
      (λ _ N h.
      does_mono S (moves_columns ys N s.1 (λ x a. f x (inr a)))
      (λ _ L g. (
        (λ x a.
            elim a [
              | inl z ↦ rw z (word-off N L (Columns e ys) (e + y) g.1 (λ q i c. absurd (omega (arith, i, c.2, s.0 c.0 c.1))) ∙ h.0)
              | inr b ↦
                  g.0 x b ∙ ap (moved_offset base) (word-off M N (In (e + y) 4) (e + x) h.1 (λ q i c. absurd (omega (arith, i, c, s.0 x b))))
            ]),
        λ q o. g.1 q (λ c. o (c.0, inr c.1, c.2)) ∙ h.1 q (λ c. o (y, inl refl, c)),
      ))))
