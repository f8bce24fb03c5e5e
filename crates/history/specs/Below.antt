-- Something of each: of each of a list, of each pair, of each number below n; and the length of a list with one element more.
use Rattle.std.specs.Prelude.{ℕ, zero, suc, ◌<◌, ◌≡◌, refl, List, [], ◌∷◌, ◌++◌, length}
use Rattle.std.proofs.Common.{ap, arith}
use Rattle.std.proofs.Math.Decide.{ℕ_discrete}

-- it holds of each of a list; of each pair of a list
unfoldable pub Each : {A : Type 0} → (A → Type 0) → List A → Type 0
Each P [] = Unit {0}
Each P (x ∷ xs) = P x × Each P xs

unfoldable pub Pairs : {A : Type 0} → (A → A → Type 0) → List A → Type 0
Pairs R [] = Unit {0}
Pairs R (x ∷ xs) = Each (R x) xs × Pairs R xs

-- of each number below n, the last one first
unfoldable pub AllBelow : (ℕ → Type 0) → ℕ → Type 0
AllBelow P zero = Unit {0}
AllBelow P (suc n) = P n × AllBelow P n

pub below : (P : ℕ → Type 0) (n i : ℕ) → i < n → AllBelow P n → P i
unfolding AllBelow
below P zero i l h = absurd (omega arith)
below P (suc n) i l h = elim (ℕ_discrete i n) [ yes e ↦ rw e h.0 | no m ↦ below P n i (omega arith) h.1 ]

-- one element more at the end
pub length_more : {A : Type 0} (xs : List A) (x : A) → length (xs ++ (x ∷ [])) ≡ suc (length xs)
length_more [] x = refl
length_more (y ∷ ys) x = ap suc (length_more ys x)
