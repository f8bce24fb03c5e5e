-- Cases: a disjunction holds where one part does, a negation where the test fails, and of two numbers that differ one is below the other.
use Rattle.std.specs.Prelude.{ℕ, zero, suc, ◌<◌, ◌≡◌, refl, ◌⊎◌, List, [], ◌∷◌, Bool, true, false, not, ◌||◌, get_or}
use Rattle.std.proofs.Common.{inl, inr, ⊎_elim, arith}

-- no test is both false and true
pub contradiction : {A : Type 0} → ◌≡◌ {A = Bool} false true → A
contradiction e = let z : ◌≡◌ {A = ℕ} 0 1 = cc in absurd (omega arith)

pub either : (a b : Bool) → (a || b) ≡ true → (a ≡ true) ⊎ (b ≡ true)
either true b h = inl refl
either false b h = inr h

-- what follows from each part follows from the disjunction
pub or_cases : {A : Type 0} (a : Bool) {b : Bool} → (a ≡ true → A) → (b ≡ true → A) → (a || b) ≡ true → A
or_cases a {b} f g h = ⊎_elim f g (either a b h)

pub or_left : {a : Bool} (b : Bool) → a ≡ true → (a || b) ≡ true
or_left b h = rw h

pub or_right : (a : Bool) {b : Bool} → b ≡ true → (a || b) ≡ true
or_right true h = refl
or_right false h = h

pub one_of : (a b : Bool) → (a ≡ true) ⊎ (b ≡ true) → (a || b) ≡ true
one_of a b h = ⊎_elim (or_left b) (or_right a) h

pub false_not : {a : Bool} → a ≡ false → not a ≡ true
false_not h = rw h

-- a test that cannot hold fails
pub not_so : (a : Bool) → (a ≡ true → ⊥) → a ≡ false
not_so true h = absurd (h refl)
not_so false h = refl

-- two numbers of which neither is below the other
pub neither_below : (i j : ℕ) → (i < j → ⊥) → (j < i → ⊥) → i ≡ j
neither_below i j h g = omega arith

-- one of several tests, the first being `first`
abbrev any_of : Bool → List Bool → Bool
any_of first [] = first
any_of first (second ∷ others) = first || any_of second others

-- number i of them holds
pub any_at : (first : Bool) (others : List Bool) (i : ℕ) → get_or (first ∷ others) i false ≡ true → any_of first others ≡ true
any_at first [] zero h = h
any_at first [] (suc i) h = contradiction h
any_at first (second ∷ others) zero h = or_left (any_of second others) h
any_at first (second ∷ others) (suc i) h = or_right first (any_at second others i h)
