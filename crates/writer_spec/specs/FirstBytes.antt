-- The list of a file's first bytes.
use Rattle.std.specs.Prelude.{ℕ, zero, suc, ◌<◌, ◌≡◌, refl, length, get_or}
use Rattle.std.proofs.Common.{ap, arith}
use Rattle.writer_spec.specs.Description.{first_bytes}

pub first-length : (n : ℕ) (F : ℕ → ℕ) → length (first_bytes n F) ≡ n
unfolding first_bytes
first-length zero F = refl
first-length (suc n) F = ap suc (first-length n (λ o. F (suc o)))

pub first-at : (n : ℕ) (F : ℕ → ℕ) (o : ℕ) → o < n → get_or (first_bytes n F) o 0 ≡ F o
unfolding first_bytes
first-at zero F o l = absurd (omega arith)
first-at (suc n) F zero l = refl
first-at (suc n) F (suc o) l = first-at n (λ o. F (suc o)) o (omega arith)
