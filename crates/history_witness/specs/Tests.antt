-- Tests that antt computes: of each number below another, of a list of tests, of two ranges.
use Rattle.std.specs.Prelude.{ℕ, zero, suc, ◌≤◌, ◌<◌, ◌≡◌, refl, ◌⊎◌, List, [], ◌∷◌, Bool, true, false, ◌&&◌, ◌||◌, get_or, eqb, leb}
use Rattle.std.proofs.Common.{sym, ◌∙◌, inl, inr, arith, leb-true, eqb-true}
use Rattle.std.proofs.Math.Decide.{ℕ_discrete}
use Rattle.window.specs.Tests.{both}

unfoldable pub all : ℕ → (ℕ → Bool) → Bool
all zero f = true
all (suc n) f = f n && all n f

pub each : (n : ℕ) (f : ℕ → Bool) → all n f ≡ true → (i : ℕ) → i < n → f i ≡ true
unfolding all
each zero f h i l = absurd (omega arith)
each (suc n) f h i l =
    let b = both (f n) (all n f) h in
    elim (ℕ_discrete i n) [ yes e ↦ rw e b.0 | no m ↦ each n f b.1 i (omega arith) ]

unfoldable pub meets : List Bool → Bool
meets [] = true
meets (b ∷ l) = b && meets l

pub nth : (l : List Bool) → meets l ≡ true → (i : ℕ) → get_or l i true ≡ true
unfolding meets
nth [] h i = refl
nth (b ∷ l) h zero = (both b (meets l) h).0
nth (b ∷ l) h (suc i) = nth l (both b (meets l) h).1 i

pub either : (a b : Bool) → (a || b) ≡ true → (a ≡ true) ⊎ (b ≡ true)
either true b h = inl refl
either false b h = inr h

-- two ranges, from l to before h and from k to before m: one ends before the other begins
unfoldable pub apart : (l h k m : ℕ) → Bool
apart l h k m = leb h k || leb m l

pub never_both : (l h k m o : ℕ) → apart l h k m ≡ true → l ≤ o → o < h → k ≤ o → o < m → ⊥
unfolding apart
never_both l h k m o e a b c d = go (either (leb h k) (leb m l) e)
  where
    go : (leb h k ≡ true) ⊎ (leb m l ≡ true) → ⊥
    go (inl z) = omega (arith, leb-true)
    go (inr z) = omega (arith, leb-true)

-- of a type whose members are told by two numbers: whether two are one
abbrev pub alike : {A : Type 0} → (A → ℕ) → (A → ℕ) → A → A → Bool
alike kind number a b = eqb (kind a) (kind b) && eqb (number a) (number b)

pub alike_true
    : {A : Type 0} (kind number : A → ℕ) (back : ℕ → ℕ → A) (again : (a : A) → back (kind a) (number a) ≡ a) (a b : A)
    → alike kind number a b ≡ true → a ≡ b
alike_true kind number back again a b h =
    let e = both (eqb (kind a) (kind b)) (eqb (number a) (number b)) h in
    let k : kind a ≡ kind b = eqb-true _ _ e.0 in
    let n : number a ≡ number b = eqb-true _ _ e.1 in
    sym (again a) ∙ rw (k, n) (again b)
