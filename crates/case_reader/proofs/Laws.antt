-- From the branches and the loop to the definitions of `Pieces`.
use Rattle.std.specs.Prelude.{Option, Some, None}
use Prim.Native.Nat.{ℕ, suc, ◌+◌, ◌*◌, ◌/◌, ◌-◌, ◌≤◌, ◌<◌}
use mathlib.Core.Path.{◌≡◌, ap}
use mathlib.Core.List.{List}
use native.Mathlib.Omega.{arith}
use lib.ListN.{length, take, drop, get_or}
use borrow.Author.Tests.{le-leb, lt-leb}
use Rattle.register.specs.Words.{words_in, part}
use Rattle.case_reader.specs.Append.{appended}
use Rattle.case_reader.specs.Pieces.{piece_length, piece_size, placed, piece, and_then, pieces}

module _ (file : List ℕ) (at : ℕ) (b : List ℕ) where
  -- a piece that is not all in the file
  pub outside : length file / 4 < at → ◌≡◌ {A = Option ℕ × List ℕ} (None, b) (piece file at b)
  unfolding piece piece_size
  outside h = rw (lt-leb (at + piece_size (piece_length file at)) (length file / 4) (omega arith))

  pub cut
      : {n : ℕ} → n ≡ get_or (words_in file) (at + 1) 0 → at ≤ length file / 4 → length file / 4 - at < 2 + (n + 3) / 4
      → ◌≡◌ {A = Option ℕ × List ℕ} (None, b) (piece file at b)
  unfolding piece piece_size piece_length
  cut {n} e g h = rw (← e, lt-leb (at + (2 + (n + 3) / 4)) (length file / 4) (omega arith))

  -- a piece that is all there
  pub inside
      : {n o : ℕ} {r : Option ℕ} {l : List ℕ} → n ≡ get_or (words_in file) (at + 1) 0 → o ≡ get_or (words_in file) at 0
      → at ≤ length file / 4 → 2 + (n + 3) / 4 ≤ length file / 4 - at
      → ◌≡◌ {A = Option ℕ × List ℕ} (r, l) (appended (take (4 * (at + 2) + n - 4 * (at + 2)) (drop (4 * (at + 2)) file)) o b)
      → placed (at + (2 + (n + 3) / 4)) (r, l) ≡ piece file at b
  unfolding piece piece_size piece_length part
  inside {n} {o} {r} {l} en eo g h e =
      let z : 4 * (at + 2) + n - 4 * (at + 2) ≡ n = omega arith in
      rw (← en, ← eo, le-leb (at + (2 + (n + 3) / 4)) (length file / 4) (omega arith))
      (ap (placed (at + (2 + (n + 3) / 4))) (rw z at e))

-- one turn of the loop
module _ (left : ℕ) (file : List ℕ) (at : ℕ) (b : List ℕ) {r : Option ℕ} {l : List ℕ} (h : 0 < left)
    (e : ◌≡◌ {A = Option ℕ × List ℕ} (r, l) (piece file at b)) where
  pub pieces-stop : r ≡ None → ◌≡◌ {A = Option ℕ × List ℕ} (None, l) (pieces left file at b)
  unfolding pieces and_then
  pieces-stop z = let m : left ≡ suc (left - 1) = omega arith in rw (m, ← e, z)

  pub pieces_on : {next : ℕ} → r ≡ Some next → pieces (left - 1) file next l ≡ pieces left file at b
  unfolding pieces and_then
  pieces_on z =
      let m : left ≡ suc (left - 1) = omega arith in
      let q : suc (left - 1) - 1 ≡ left - 1 = omega arith in
      rw (m, ← e, z, q)
