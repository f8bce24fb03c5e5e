-- Parts of lists of bytes and words, and lists that begin with a known one.
use Rattle.std.specs.Prelude.{◌≡◌, ℕ, suc, ◌+◌, ◌<◌, ◌≤◌, true, List, [], ◌∷◌, ◌++◌, length, take, drop, ◌==◌, slice_index, refl}
use Rattle.std.proofs.Common.{ap, ◌∙◌, arith, add-one, length-drop, drop-cons, take-add, drop-drop, length-take-le, eqb-true, eq-eqb}
use Rattle.std.proofs.Math.Seq.{take-length, drop-append_seam, take-append_seam}
use Rattle.window.specs.Tests.{both}
use Rattle.register.specs.Words.{part, same}

pub same_true : (a b : List ℕ) → same a b ≡ true → a ≡ b
unfolding same
same_true [] [] e = refl
same_true [] (b ∷ t) e = cc
same_true (a ∷ s) [] e = cc
same_true (a ∷ s) (b ∷ t) e = let h = both (a == b) (same s t) e in rw (eqb-true a b h.0, same_true s t h.1)

pub same_refl : (a : List ℕ) → same a a ≡ true
unfolding same
same_refl [] = refl
same_refl (a ∷ s) = rw (eq-eqb a a refl) (same_refl s)

-- one element more
pub take_next : (l : List ℕ) (j n : ℕ) → j < length l → take (suc n) (drop j l) ≡ slice_index l j ∷ take n (drop (j + 1) l)
take_next l j n h = rw (drop-cons l j 0 h, add-one)

pub length_part : (l : List ℕ) (o n : ℕ) → o + n ≤ length l → length (part l o n) ≡ n
unfolding part
length_part l o n h = length-take-le n (drop o l) (rw length-drop (omega arith))

pub part_none : (l : List ℕ) (o : ℕ) → part l o 0 ≡ []
unfolding part
part_none l o = refl

pub part-all : (l : List ℕ) (n : ℕ) → length l ≡ n → part l 0 n ≡ l
unfolding part
part-all l n e = rw (← e, take-length)

pub part-add : (l : List ℕ) (o m n : ℕ) → part l o (m + n) ≡ part l o m ++ part l (o + m) n
unfolding part
part-add l o m n = take-add m n (drop o l) ∙ ap (λ r. take m (drop o l) ++ take n r) (drop-drop m o l)

-- the middle of three
pub part_middle : (a b c : List ℕ) (o n : ℕ) → length a ≡ o → length b ≡ n → part (a ++ (b ++ c)) o n ≡ b
unfolding part
part_middle a b c o n p q = rw (← p, ← q, drop-append_seam, take-append_seam)
