-- A test of each number below n.
use Rattle.std.specs.Prelude.{ℕ, zero, suc, ◌<◌, ◌≡◌, refl, Bool, true, false, ◌&&◌}
use Rattle.std.proofs.Common.{sym, ◌∙◌, arith}
use Rattle.std.proofs.Math.Decide.{ℕ_discrete}
use Rattle.window.specs.Tests.{both, also}

-- it holds of each number below n, the last one first
unfoldable pub all_below : ℕ → (ℕ → Bool) → Bool
all_below zero test = true
all_below (suc n) test = test n && all_below n test

pub all_none : (test : ℕ → Bool) → all_below 0 test ≡ true
unfolding all_below
all_none test = refl

pub all_more : (n : ℕ) (test : ℕ → Bool) → test n ≡ true → all_below n test ≡ true → all_below (suc n) test ≡ true
unfolding all_below
all_more n test h g = also h g

pub all-at : (n : ℕ) (test : ℕ → Bool) → all_below n test ≡ true → (i : ℕ) → i < n → test i ≡ true
unfolding all_below
all-at zero test h i l = absurd (omega arith)
all-at (suc n) test h i l =
    let parts = both (test n) (all_below n test) h in
    elim (ℕ_discrete i n) [ yes e ↦ rw e parts.0 | no m ↦ all-at n test parts.1 i (omega arith) ]

pub all_true : (n : ℕ) (test : ℕ → Bool) → ((i : ℕ) → i < n → test i ≡ true) → all_below n test ≡ true
unfolding all_below
all_true zero test h = refl
all_true (suc n) test h = also (h n (omega arith)) (all_true n test (λ i l. h i (omega arith)))

-- one that fails makes the whole fail
pub all_false : (n : ℕ) (test : ℕ → Bool) (i : ℕ) → i < n → test i ≡ false → all_below n test ≡ false
all_false n test i l e = go (all_below n test) refl
  where
    go : (whole : Bool) → all_below n test ≡ whole → all_below n test ≡ false
    go false f = f
    go true f = let z : ◌≡◌ {A = Bool} true false = sym (all-at n test f i l) ∙ e in cc

-- where the whole fails, one does
pub all_fails : (n : ℕ) (test : ℕ → Bool) → all_below n test ≡ false → (i : ℕ) × (i < n) × (test i ≡ false)
unfolding all_below
all_fails zero test h = let z : ◌≡◌ {A = Bool} true false = h in absurd (let y : ◌≡◌ {A = ℕ} 0 1 = cc in omega arith)
all_fails (suc n) test h = go (test n) refl h (all_fails n test)
  where
    go
        : (b : Bool) → test n ≡ b → (b && all_below n test) ≡ false
        → (all_below n test ≡ false → (i : ℕ) × (i < n) × (test i ≡ false))
        → (i : ℕ) × (i < suc n) × (test i ≡ false)
    go false e f rest = (n, omega arith, e)
    go true e f rest = let r = rest f in (r.0, omega (arith, r.1), r.2)

-- equal tests give equal answers
pub all_same : (n : ℕ) (f g : ℕ → Bool) → ((i : ℕ) → i < n → f i ≡ g i) → all_below n f ≡ all_below n g
unfolding all_below
all_same zero f g h = refl
all_same (suc n) f g h = rw (h n (omega arith), all_same n f g (λ i l. h i (omega arith)))
