-- The test's loops and branches: exports of a record, records of the buffer.
use Rattle.std.specs.Prelude.{if◌then◌else◌, Option, Some, None}
use Prim.Native.Nat.{ℕ, suc, ◌+◌, ◌-◌, ◌*◌, ◌/◌, ◌%◌, ◌≤◌, ◌<◌}
use mathlib.Core.Path.{◌≡◌, refl, sym, ap, ◌∙◌}
use mathlib.Core.List.{List}
use mathlib.Core.Bool.{Bool, true, false, ◌&&◌}
use native.Mathlib.Omega.{arith}
use lib.ListN.{length, take, drop, get_or, length-drop}
use lib.Seq.{drop-drop}
use lib.Dec.{eqb}
use borrow.Author.Tests.{eq-eqb, ne_eqb, le-leb}
use Rattle.window.specs.Name.{no_zero}
use Rattle.register.specs.Words.{part, words_in, words-drop, length-words, part-words}
use Rattle.register.specs.Module.{ascending}
use Rattle.register.specs.Decode.{module_size, exports_in}
use Rattle.register.specs.Check.{name_ok, exports_end, fixed_ok, export_part, module_end, modules_ok}
use Rattle.register.specs.CheckSound.{named, fixed}
use Rattle.register.proofs.Laws.{part-whole}

-- the names of n exports, k of them seen

module _ (n : ℕ) (ws names : List ℕ) (k q : ℕ) (t : Bool) {o l : ℕ} (h : k < n) (eo : o ≡ get_or ws (3 * k) 0) (el : l ≡ get_or ws (3 * k + 1) 0)
    (s : t ≡ name_ok names q o l) where
  pub end_bad : t ≡ false → None ≡ exports_end (n - k) ws names k q
  unfolding exports_end
  end_bad z = let m : n - k ≡ suc (n - (k + 1)) = omega arith in rw (m, ← eo, ← el, ← s, z)

  pub end_on : t ≡ true → exports_end (n - (k + 1)) ws names (k + 1) (q + l) ≡ exports_end (n - k) ws names k q
  unfolding exports_end
  end_on z = let m : n - k ≡ suc (n - (k + 1)) = omega arith in rw (m, ← eo, ← el, ← s, z)

pub end_done : (n : ℕ) (ws names : List ℕ) (k q : ℕ) → n ≤ k → Some q ≡ exports_end (n - k) ws names k q
unfolding exports_end
end_done n ws names k q h = let m : n - k ≡ 0 = omega arith in rw m

pub end_all
    : (e names : List ℕ) (q : ℕ) → exports_end (length e / 12 - 0) (words_in e) names 0 q ≡ exports_end (length (words_in e) / 3) (words_in e) names 0 q
end_all e names q = let h : length e / 12 - 0 ≡ length (words_in e) / 3 = rw length-words (omega arith) in rw h

pub name_good
    : (names : List ℕ) (q o l : ℕ) {r : Bool} → o ≡ q → l ≤ 512 → o + l ≤ length names → r ≡ no_zero (take (o + l - o) (drop o names))
    → r ≡ name_ok names q o l
unfolding name_ok
name_good names q o l e h g s =
    s ∙ ap no_zero (part-whole names o l) ∙ rw (eq-eqb o q e, le-leb l 512 h, le-leb (o + l) (length names) g)

-- a right name ends inside the names
pub name-inside : (names : List ℕ) (q o l : ℕ) {t : Bool} → t ≡ name_ok names q o l → t ≡ true → q + l ≤ length names
name-inside names q o l s z = let a = named names q o l (sym s ∙ z) in omega (arith, a.place, a.fits)

-- a record whose first words are right has all its words, and its own name
module _ (ws names : List ℕ) (q : ℕ) {t : Bool} (s : t ≡ fixed_ok ws names q) (z : t ≡ true) where
  pub fixed_size_lem : module_size ws ≤ length ws
  fixed_size_lem = (fixed ws names q (sym s ∙ z)).whole

  pub fixed_name : q + get_or ws 4 0 ≤ length names
  fixed_name = let a = (fixed ws names q (sym s ∙ z)).name in omega (arith, a.place, a.fits)

pub size-bytes : (b : List ℕ) → module_size (words_in b) ≤ length (words_in b) → 4 * (8 + get_or (words_in b) 5 0) + 12 * get_or (words_in b) 6 0 ≤ length b
unfolding module_size
size-bytes b h = omega (arith, length-words b)

-- the part of the bytes that holds the exports
pub export_bytes : (b : List ℕ) (s n : ℕ) → take (4 * (8 + s) + 12 * n - 4 * (8 + s)) (drop (4 * (8 + s)) b) ≡ part b (4 * (8 + s)) (4 * (3 * n))
unfolding part
export_bytes b s n = let e : 4 * (8 + s) + 12 * n - 4 * (8 + s) ≡ 4 * (3 * n) = omega arith in rw e

pub export_words_lem
    : (b list : List ℕ) {s n : ℕ} → s ≡ get_or (words_in b) 5 0 → n ≡ get_or (words_in b) 6 0
    → list ≡ take (4 * (8 + s) + 12 * n - 4 * (8 + s)) (drop (4 * (8 + s)) b) → words_in list ≡ export_part (words_in b)
unfolding export_part
export_words_lem b list {s} {n} es en el = rw (el, export_bytes b s n, part-words b (8 + s) (3 * n), es, en)

module _ (ws names : List ℕ) (q : ℕ) where
  pub module_bad : {t : Bool} → t ≡ fixed_ok ws names q → t ≡ false → None ≡ module_end ws names q
  unfolding module_end
  module_bad s z = rw (← s, z)

  pub module_disordered
      : {t u : Bool} (es : List ℕ) → t ≡ fixed_ok ws names q → t ≡ true → es ≡ export_part ws → u ≡ ascending (exports_in es names) → u ≡ false
      → None ≡ module_end ws names q
  unfolding module_end
  module_disordered es s z e d y = rw (← s, z, ← e, ← d, y)

  pub module_end_lem
      : {t u : Bool} {r : Option ℕ} {l : ℕ} (es : List ℕ) → t ≡ fixed_ok ws names q → t ≡ true → es ≡ export_part ws → u ≡ ascending (exports_in es names)
      → u ≡ true → l ≡ get_or ws 4 0 → r ≡ exports_end (length es / 3) es names 0 (q + l) → r ≡ module_end ws names q
  unfolding module_end
  module_end_lem es s z e d y el f = f ∙ rw (el, e, ← s, z, ← e, ← d, y)

-- n records, k of them seen; the bytes from `place` on are left

module _ (n : ℕ) (r names : List ℕ) (k place q : ℕ) (h : k < n) where
  turn : n - k ≡ suc (n - (k + 1))
  turn = omega arith

  pub modules_bad
      : (rest : List ℕ) {e : Option ℕ} → rest ≡ drop place r → e ≡ module_end (words_in rest) names q → e ≡ None
      → false ≡ modules_ok (n - k) (words_in (drop place r)) names q
  unfolding modules_ok
  modules_bad rest f s z = rw (turn, ← f, ← s, z)

  pub modules_on
      : (rest : List ℕ) {e : Option ℕ} {q' m : ℕ} → rest ≡ drop place r → e ≡ module_end (words_in rest) names q → e ≡ Some q' → m ≡ module_size (words_in rest)
      → modules_ok (n - (k + 1)) (words_in (drop (place + 4 * m) r)) names q' ≡ modules_ok (n - k) (words_in (drop place r)) names q
  unfolding modules_ok
  modules_on rest {m = m} f s z y =
      rw (turn, ← drop-drop (4 * m) place r, words-drop m (drop place r), ← f, ← s, z, y)

pub modules_end
    : (n : ℕ) (r names : List ℕ) (k place q : ℕ) → n ≤ k → modules_ok (n - k) (words_in (drop place r)) names q
    ≡ (eqb (length (words_in (drop place r))) 0 && eqb q (length names))
unfolding modules_ok
modules_end n r names k place q h = let m : n - k ≡ 0 = omega arith in rw m

pub left_over : (r : List ℕ) (place : ℕ) → length (words_in (drop place r)) ≡ (length r - place) / 4
left_over r place = length-words (drop place r) ∙ ap (λ x. x / 4) (length-drop place r)

-- a record that passed ends inside the bytes
pub module_fits
    : (ws names : List ℕ) (q : ℕ) {e : Option ℕ} {q' : ℕ} → e ≡ module_end ws names q → e ≡ Some q' → module_size ws ≤ length ws
unfolding module_end
module_fits ws names q {q' = q'} s z = go (fixed_ok ws names q) (ascending (exports_in (export_part ws) names)) refl (sym s ∙ z)
  where
    go
        : (a b : Bool) → fixed_ok ws names q ≡ a
        → (if a && b then exports_end (length (export_part ws) / 3) (export_part ws) names 0 (q + get_or ws 4 0) else None) ≡ Some q'
        → module_size ws ≤ length ws
    go true b p y = fixed_size_lem ws names q refl p
    go false b p y = let x : ◌≡◌ {A = ℕ} 0 1 = cc in absurd (omega arith)

pub place-fits
    : (r rest names : List ℕ) (place q : ℕ) {e : Option ℕ} {q' m : ℕ} → place ≤ length r → rest ≡ drop place r
    → e ≡ module_end (words_in rest) names q → e ≡ Some q' → m ≡ module_size (words_in rest) → place + 4 * m ≤ length r
place-fits r rest names place q {m = m} h f s z y =
    let a : m ≤ length (words_in rest) = rw y (module_fits (words_in rest) names q s z) in
    let b : length (words_in rest) ≡ (length r - place) / 4 = rw f (left_over r place) in
    omega arith

-- all records seen: nothing is left over, of words and of names

pub modules_more
    : (n : ℕ) (r names : List ℕ) (k place q : ℕ) → n ≤ k → place % 4 ≡ 0 → place ≤ length r → (length r / 4 ≡ place / 4 → ⊥)
    → false ≡ modules_ok (n - k) (words_in (drop place r)) names q
modules_more n r names k place q h m l d =
    sym (modules_end n r names k place q h ∙ rw (left_over r place, ne_eqb ((length r - place) / 4) 0 (λ e. d (omega arith))))

pub modules_done
    : (n : ℕ) (r names : List ℕ) (k place q : ℕ) → n ≤ k → place % 4 ≡ 0 → place ≤ length r → length r / 4 ≡ place / 4
    → eqb q (length names) ≡ modules_ok (n - k) (words_in (drop place r)) names q
modules_done n r names k place q h m l d =
    sym (modules_end n r names k place q h ∙ rw (left_over r place, eq-eqb ((length r - place) / 4) 0 (omega arith)))
