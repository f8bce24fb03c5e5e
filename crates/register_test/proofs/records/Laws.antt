-- The loop that looks for a zero: a flag that falls at the first one.
use Prim.Native.Nat.{ℕ, ◌+◌, ◌≤◌, ◌<◌}
use mathlib.Core.Path.{◌≡◌, refl}
use mathlib.Core.List.{List}
use mathlib.Core.Bool.{Bool, true, false, ◌&&◌}
use native.Mathlib.Numerals.{add-one}
use lib.ListN.{length, drop, get_or, drop_of_length-le}
use lib.Seq.{drop-cons}
use borrow.Author.Tests.{eq-eqb, ne_eqb}
use Rattle.window.specs.Name.{no_zero}

some_zero : (l : List ℕ) (i : ℕ) → i < length l → get_or l i 0 ≡ 0 → false ≡ no_zero (drop i l)
unfolding no_zero
some_zero l i h e = rw (drop-cons l i 0 h) (simp (eq-eqb _ _ e))

pub no_zero-off : (l : List ℕ) (i : ℕ) (z : Bool) → i < length l → get_or l i 0 ≡ 0 → (false && no_zero (drop (i + 1) l)) ≡ (z && no_zero (drop i l))
no_zero-off l i false h e = refl
no_zero-off l i true h e = some_zero l i h e

pub no_zero_on : (l : List ℕ) (i : ℕ) → i < length l → (get_or l i 0 ≡ 0 → ⊥) → no_zero (drop (i + 1) l) ≡ no_zero (drop i l)
unfolding no_zero
no_zero_on l i h n = rw (drop-cons l i 0 h, add-one) (simp (ne_eqb _ _ n))

pub no_zero-left : (l : List ℕ) (i : ℕ) (z : Bool) → length l ≤ i → z ≡ (z && no_zero (drop i l))
unfolding no_zero
no_zero-left l i false h = refl
no_zero-left l i true h = rw (drop_of_length-le l h)
