-- Bytes laid over a buffer one after another, and a piece laid over it.
use Rattle.std.proofs.lemmas.List.{get_or_append_left, get_or-append_right}
use Prim.Native.Nat.{ℕ, ◌+◌, ◌-◌, ◌<◌, ◌≤◌}
use mathlib.Core.Path.{◌≡◌, refl, sym, ◌∙◌, ap}
use mathlib.Core.List.{List, ◌++◌}
use native.Mathlib.Omega.{arith}
use native.Mathlib.Decide.{dec_lt, ℕ_discrete}
use lib.ListN.{length, get_or, take, drop, set, length-append, length-drop, length-set}
use lib.Seq.{length-take-le, get_or-take, get_or-drop, get_or-set_same, get_or-set_other}
use borrow.Author.Tests.{lt-ltb, le-ltb}
use Rattle.writer_spec.specs.Description.{file_of}
use Rattle.writer.specs.Image.{between, Holds}

module _ (from to : ℕ) (F G : ℕ → ℕ) (o : ℕ) where
  pub between_in : from ≤ o → o < to → between from to F G o ≡ F o
  unfolding between
  between_in l m = rw (le-ltb o from l, lt-ltb o to m)

  pub between_before : o < from → between from to F G o ≡ G o
  unfolding between
  between_before l = rw (lt-ltb o from l)

  pub between-after : from ≤ o → to ≤ o → between from to F G o ≡ G o
  unfolding between
  between-after l m = rw (le-ltb o from l, le-ltb o to m)

module _ (from : ℕ) (F : ℕ → ℕ) (before : List ℕ) where
  -- nothing laid yet
  pub none_laid : Holds before before (between from from F (file_of before))
  none_laid =
      record {
        kept = refl;
        bytes = λ o l. elim (dec_lt o from) [
          | yes m ↦ sym (between_before from from F (file_of before) o m)
          | no m ↦ sym (between-after from from F (file_of before) o (omega arith) (omega arith))
        ];
      }

  -- one byte more
  pub one-laid
      : (i v : ℕ) (after : List ℕ) → from ≤ i → i < length before → v ≡ F i → Holds before after (between from i F (file_of before))
      → Holds before (set after i v) (between from (i + 1) F (file_of before))
  unfolding file_of
  one-laid i v after l m said held =
      record {
        kept = length-set after i v ∙ held.kept;
        bytes = λ o n. elim (ℕ_discrete o i) [
          | yes here ↦
              rw here (get_or-set_same after i v 0 (omega (arith, held.kept)) ∙ said ∙ sym (between_in from (i + 1) F (file_of before) i l (omega arith)))
          | no other ↦ get_or-set_other after i o v 0 other ∙ held.bytes o n ∙ same o other (dec_lt o from) (dec_lt o i)
        ];
      }
    where
      same
          : (o : ℕ) → (o ≡ i → ⊥) → Dec (o < from) → Dec (o < i) → between from i F (file_of before) o ≡ between from (i + 1) F (file_of before) o
      same o other (yes p) q = between_before from i F (file_of before) o p ∙ sym (between_before from (i + 1) F (file_of before) o p)
      same o other (no p) (yes q) =
          between_in from i F (file_of before) o (omega arith) q ∙ sym (between_in from (i + 1) F (file_of before) o (omega arith) (omega arith))
      same o other (no p) (no q) =
          between-after from i F (file_of before) o (omega arith) (omega arith)
          ∙ sym (between-after from (i + 1) F (file_of before) o (omega arith) (omega arith))

-- a piece laid over what stood from `from` on
module _ (from k to : ℕ) (F : ℕ → ℕ) (before piece : List ℕ) (counted : length piece ≡ k) (ends : from + k ≡ to) (room : to ≤ length before) where
  abbrev laid : List ℕ
  laid = take from before ++ (piece ++ drop k (drop from before))

  laid_length : length laid ≡ length before
  laid_length =
      simp (length-append, length-drop)
      (let front : length (take from before) ≡ from = length-take-le from before (omega arith) in omega arith)

  pub piece-laid : ((i : ℕ) → i < k → get_or piece i 0 ≡ F (from + i)) → Holds before laid (between from to F (file_of before))
  unfolding file_of
  piece-laid said =
      let front : length (take from before) ≡ from = length-take-le from before (omega arith) in
      record {
        kept = laid_length;
        bytes = λ o l. elim (dec_lt o from) [
          | yes m ↦
              get_or_append_left (take from before) _ 0 o (omega arith) ∙ (get_or-take from before o 0 m ∙ sym (between_before from to F (file_of before) o m))
          | no m ↦
              get_or-append_right (take from before) _ from o 0 front (omega arith) ∙ inner o (omega arith) (dec_lt o to)
        ];
      }
    where
      inner
          : (o : ℕ) → from ≤ o → Dec (o < to)
          → get_or (piece ++ drop k (drop from before)) (o - from) 0 ≡ between from to F (file_of before) o
      inner o past (yes m) =
          let place : from + (o - from) ≡ o = omega arith in
          get_or_append_left piece _ 0 (o - from) (omega arith)
          ∙ (said (o - from) (omega arith) ∙ (ap F place ∙ sym (between_in from to F (file_of before) o past m)))
      inner o past (no m) =
          let place : from + (k + (o - from - k)) ≡ o = omega arith in
          get_or-append_right piece _ k (o - from) 0 counted (omega arith)
          ∙ (get_or-drop k (drop from before) (o - from - k) 0
          ∙ (get_or-drop from before (k + (o - from - k)) 0
          ∙ (ap (λ i. get_or before i 0) place ∙ sym (between-after from to F (file_of before) o past (omega arith)))))
