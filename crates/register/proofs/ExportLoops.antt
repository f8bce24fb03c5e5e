-- The loops over a record's named exports: n in all, those from number k on still to see.
use Rattle.std.proofs.Common.{◌≡◌, ℕ, zero, suc, ◌+◌, ◌-◌, ◌/◌, ◌<◌, ◌≤◌, List, [], ◌∷◌, length, get_or, sym, refl, ap, ◌∙◌, arith}
use Rattle.register.specs.Words.{words_in, length-words}
use Rattle.register.specs.Module.{Export}
use Rattle.register.specs.Order.{an_export, name_in}
use Rattle.register.specs.Decode.{export_at, exports_from, exports_in}

-- all of them, as the code counts them: twelve bytes an export
pub all_exports : (e names : List ℕ) → exports_from (length e / 12 - 0) (words_in e) names 0 ≡ exports_in (words_in e) names
unfolding exports_in
all_exports e names = let h : length e / 12 - 0 ≡ length (words_in e) / 3 = rw length-words (omega arith) in rw h

module _ (n : ℕ) (ws names : List ℕ) (k : ℕ) where
  pub exports_turn
      : k < n → exports_from (n - k) ws names k ≡ export_at ws names k ∷ exports_from (n - (k + 1)) ws names (k + 1)
  unfolding exports_from
  exports_turn h = let s : n - k ≡ suc (n - (k + 1)) = omega arith in rw s

  pub exports_done : n ≤ k → exports_from (n - k) ws names k ≡ []
  unfolding exports_from
  exports_done h = let s : n - k ≡ 0 = omega arith in rw s

-- how many there are, and the name of number k

length_from : (n : ℕ) (ws names : List ℕ) (i : ℕ) → length (exports_from n ws names i) ≡ n
unfolding exports_from
length_from zero ws names i = refl
length_from (suc n) ws names i = ap suc (length_from n ws names (i + 1))

from_at : (n : ℕ) (ws names : List ℕ) (i k : ℕ) → k < n → get_or (exports_from n ws names i) k an_export ≡ export_at ws names (i + k)
unfolding exports_from
from_at zero ws names i k h = absurd (omega arith)
from_at (suc n) ws names i zero h = let e : i + 0 ≡ i = omega arith in rw e
from_at (suc n) ws names i (suc k) h =
    let e : i + 1 + k ≡ i + suc k = omega arith in
    from_at n ws names (i + 1) k (omega arith) ∙ ap (export_at ws names) e

pub length_exports : (e names : List ℕ) → length (exports_in (words_in e) names) ≡ length e / 12
length_exports e names = ap length (sym (all_exports e names)) ∙ length_from (length e / 12 - 0) (words_in e) names 0 ∙ omega arith

pub name-at : (e names : List ℕ) (k : ℕ) → k < length e / 12 → name_in (exports_in (words_in e) names) k ≡ (export_at (words_in e) names k).name
name-at e names k h =
    ap (λ xs. name_in xs k) (sym (all_exports e names))
    ∙ ap (λ (x : Export). x.name) (from_at (length e / 12 - 0) (words_in e) names 0 k (omega arith))
    ∙ ap (λ i. (export_at (words_in e) names i).name) (omega arith)
