-- From the loop over a buffer to the definition of `Append`.
use Rattle.std.specs.Prelude.{Option, Some}
use Prim.Native.Nat.{ℕ, ◌+◌, ◌≤◌, ◌<◌}
use mathlib.Core.Path.{◌≡◌, sym, ◌∙◌}
use mathlib.Core.Bool.{Bool, true, false}
use mathlib.Core.List.{List, ◌++◌}
use lib.ListN.{length, take, drop}
use lib.Dec.{leb}
use borrow.Author.Tests.{leb-true, leb-false}
use Rattle.case_reader.specs.Append.{appended, appended-fits}

-- the test of an append
module _ (i n all : ℕ) {r : Bool} (e : r ≡ leb (i + n) all) where
  pub room_none : r ≡ false → all < i + n
  room_none h = leb-false (i + n) all (sym e ∙ h)

  pub room_enough : r ≡ true → i + n ≤ all
  room_enough h = leb-true (i + n) all (sym e ∙ h)

-- all of s in l
pub laid
    : (s : List ℕ) (i : ℕ) (l : List ℕ) {n : ℕ} {b : List ℕ} → i + n ≤ length l → n ≡ length s
    → b ≡ take i l ++ s ++ drop (i + n) l → ◌≡◌ {A = Option ℕ × List ℕ} (Some (i + n), b) (appended s i l)
laid s i l h e g = rw (g, e, appended-fits s i l (rw e at h))
