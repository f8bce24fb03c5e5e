-- What an append of a text leaves in a lent buffer.
use Rattle.std.specs.Prelude.{if◌then◌else◌, ℕ, ◌+◌, ◌≤◌, ◌<◌, ◌≡◌, List, ◌++◌, take, drop, leb, Option, Some, None}
use Rattle.std.proofs.Common.{sym, ap, ◌∙◌, arith, length-append, length-take, length-drop, length-take-le, le-leb}
use Rattle.std.proofs.Math.Decide.{dec_le}
use Rattle.std.proofs.Math.ListN.{length}
use Rattle.std.proofs.lemmas.Bool.{lt-leb}

-- s in a buffer from place i on, and the next place; a buffer too short for it stays as it is
unfoldable pub appended : List ℕ → ℕ → List ℕ → Option ℕ × List ℕ
appended s i l =
    if leb (i + length s) (length l) then (Some (i + length s), take i l ++ s ++ drop (i + length s) l) else (None, l)

-- what they give

module _ (s : List ℕ) (i : ℕ) (l : List ℕ) where
  pub appended-fits : i + length s ≤ length l → appended s i l ≡ (Some (i + length s), take i l ++ s ++ drop (i + length s) l)
  unfolding appended
  appended-fits h = rw (le-leb (i + length s) (length l) h)

  pub appended_full : length l < i + length s → appended s i l ≡ (None, l)
  unfolding appended
  appended_full h = rw (lt-leb (i + length s) (length l) h)

  -- the buffer keeps its length
  pub length-appended : length (appended s i l).1 ≡ length l
  length-appended = go (dec_le (i + length s) (length l))
    where
      go : Dec (i + length s ≤ length l) → length (appended s i l).1 ≡ length l
      go (yes h) = rw (appended-fits h) (simp (length-append, length-take, length-drop) (omega arith))
      go (no h) = rw (appended_full (omega arith))

  -- the next place is within it, or at its end: what `&buffer[..e]` asks
  pub next-within
      : {r : Option ℕ} {e : ℕ} {b : List ℕ} → ◌≡◌ {A = Option ℕ × List ℕ} (r, b) (appended s i l) → r ≡ Some e
      → (e ≤ length b) × (e ≡ length (take e b))
  next-within {r} {e} {b} f g = let h = go (dec_le (i + length s) (length l)) in (h, sym (length-take-le e b h))
    where
      kept : length b ≡ length l
      kept = ap (λ (p : Option ℕ × List ℕ). length p.1) f ∙ length-appended

      go : Dec (i + length s ≤ length l) → e ≤ length b
      go (yes h) =
          let n : Some e ≡ Some (i + length s) = sym g ∙ ap (λ (p : Option ℕ × List ℕ). p.0) (f ∙ appended-fits h) in
          let m : e ≡ i + length s = cc in
          omega (arith, kept)
      go (no h) =
          let n : Some e ≡ None = sym g ∙ ap (λ (p : Option ℕ × List ℕ). p.0) (f ∙ appended_full (omega arith)) in
          let z : ◌≡◌ {A = ℕ} 0 1 = cc in
          omega arith
