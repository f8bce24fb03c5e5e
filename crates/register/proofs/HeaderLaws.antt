-- The header's words with word 3 settled.
use Rattle.std.specs.Prelude.{if◌then◌else◌}
use Rattle.std.proofs.Common.{◌≡◌, ℕ, ◌<◌, Bool, true, false, ◌&&◌, eqb, List, length, get_or, set, sym, refl, ◌∙◌, arith, get_or-set_same, eq-eqb, ne_eqb}
use lib.ListN.{get_or-eq_default}
use Rattle.register.specs.Words.{words_in, length-words}
use Rattle.register.specs.Decode.{settled}
use Rattle.register.specs.CheckIs.{length-settled}

-- word 3: as it stands, or 32 where it and the count are 0; 0 where there are not four words

pub used_stands : (ws : List ℕ) {u : ℕ} → u ≡ get_or ws 3 0 → (u ≡ 0 → ⊥) → u ≡ get_or (settled ws) 3 0
unfolding settled
used_stands ws e n = e ∙ go (eqb (get_or ws 0 0) 0)
  where
    go : (b : Bool) → get_or ws 3 0 ≡ get_or (if b && eqb (get_or ws 3 0) 0 then set ws 3 32 else ws) 3 0
    go true = rw (ne_eqb (get_or ws 3 0) 0 (λ z. n (e ∙ z)))
    go false = refl

pub used_none : (ws : List ℕ) → 3 < length ws → get_or ws 3 0 ≡ 0 → get_or ws 0 0 ≡ 0 → 32 ≡ get_or (settled ws) 3 0
unfolding settled
used_none ws h e f = rw (eq-eqb (get_or ws 0 0) 0 f, eq-eqb (get_or ws 3 0) 0 e) (sym (get_or-set_same ws 3 32 0 h))

pub used-zero : (ws : List ℕ) → get_or ws 3 0 ≡ 0 → (get_or ws 0 0 ≡ 0 → ⊥) → 0 ≡ get_or (settled ws) 3 0
unfolding settled
used-zero ws e n = rw (ne_eqb (get_or ws 0 0) 0 n, e)

pub used-short : (records : List ℕ) → length records < 16 → 0 ≡ get_or (settled (words_in records)) 3 0
used-short records h =
    sym (get_or-eq_default (settled (words_in records)) 0 (omega (arith, length-settled (words_in records), length-words records)))
