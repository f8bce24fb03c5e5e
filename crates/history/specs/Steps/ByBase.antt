-- The register's first record with a base.
use Rattle.std.specs.Prelude.{ℕ, zero, suc, ◌+◌, ◌<◌, ◌≡◌, refl, ◌≢◌, List, [], ◌∷◌, length}
use Rattle.std.proofs.Common.{sym, ap, ◌∙◌, arith, eq-eqb, ne_eqb}
use Rattle.register.specs.Module.{Module}
use Rattle.linker_spec.specs.Calls.{unknown, stands, first_with_base}
use Rattle.history.specs.LoadedModule.{Image, base_of}
use Rattle.history.specs.Steps.Records.{Recorded}
use Rattle.history.specs.Steps.Own.{RecordedAll}

-- that of number d if it is the first module there
pub finds
    : (x : ℕ → Image) (rs : List Module) (d k base : ℕ) → d < length rs → base_of (x d).load_call ≡ base
    → ((j : ℕ) → j < d → base_of (x j).load_call ≢ base) → RecordedAll x rs
    → (r : Module) × Recorded (x d) r × (first_with_base base rs k ≡ stands r (k + d))
unfolding RecordedAll first_with_base
finds x [] d k base l e o h = absurd (omega arith)
finds x (r ∷ rs) zero k base l e o h =
    let z : k ≡ k + 0 = omega arith in
    (r, h.0, rw (eq-eqb r.base base (h.0.base ∙ e)) (ap (stands r) z))
finds x (r ∷ rs) (suc d) k base l e o h =
    let g = finds (λ j. x (suc j)) rs d (suc k) base (omega arith) e (λ j i. o (suc j) (omega arith)) h.1 in
    let z : suc k + d ≡ k + suc d = omega arith in
    (g.0, g.1, rw (ne_eqb r.base base (λ c. o 0 (omega arith) (sym h.0.base ∙ c))) (g.2 ∙ ap (stands g.0) z))

-- none has it
pub finds_none
    : (x : ℕ → Image) (rs : List Module) (k base : ℕ) → ((j : ℕ) → j < length rs → base_of (x j).load_call ≢ base) → RecordedAll x rs
    → first_with_base base rs k ≡ unknown
unfolding RecordedAll first_with_base
finds_none x [] k base o h = refl
finds_none x (r ∷ rs) k base o h =
    rw (ne_eqb r.base base (λ c. o 0 (omega arith) (sym h.0.base ∙ c)))
    (finds_none (λ j. x (suc j)) rs (suc k) base (λ j i. o (suc j) (omega arith)) h.1)
