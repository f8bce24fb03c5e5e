-- From the branches to the definitions of `Cases`.
use Rattle.std.specs.Prelude.{Option, Some, None, slice_range}
use Prim.Native.Nat.{ℕ, ◌/◌, ◌≤◌, ◌<◌}
use mathlib.Core.Path.{◌≡◌}
use mathlib.Core.List.{List}
use mathlib.Core.Bool.{Bool}
use lib.ListN.{length, take, replicate}
use Rattle.std.proofs.Math.Nat.{sub-zero}
use borrow.Author.Tests.{le-leb, lt-leb}
use Rattle.register.specs.Words.{words_in}
use Rattle.register.specs.Decode.{is_register}
use Rattle.case_reader.specs.Pieces.{pieces}
use Rattle.register_cases.specs.Cases.{verdict, judged, and_then, case_over, case_at}
use Rattle.register_cases.specs.declared.Verdict.{Verdict}

-- the first n of a list
first : (xs : List ℕ) (n : ℕ) {ys : List ℕ} → ys ≡ slice_range xs 0 n → ys ≡ take n xs
first xs n e = rw (sub-zero n) at e

-- the buffers, too short or long enough
module _ (next : ℕ) (records : List ℕ) (r : ℕ) (names : List ℕ) (n : ℕ) (missing : List ℕ) (m : ℕ) where
  pub short-records : length records < r → None ≡ judged next records r names n missing m
  unfolding judged
  short-records h = rw (lt-leb r (length records) h)

  pub short-names : r ≤ length records → length names < n → None ≡ judged next records r names n missing m
  unfolding judged
  short-names a h = rw (le-leb r (length records) a, lt-leb n (length names) h)

  pub short_missing
      : r ≤ length records → n ≤ length names → length missing < m → None ≡ judged next records r names n missing m
  unfolding judged
  short_missing a b h = rw (le-leb r (length records) a, le-leb n (length names) b, lt-leb m (length missing) h)

  pub enough
      : {rs ns ms : List ℕ} {valid : Bool} → r ≤ length records → rs ≡ slice_range records 0 r → n ≤ length names → ns ≡ slice_range names 0 n
      → m ≤ length missing → ms ≡ slice_range missing 0 m → valid ≡ is_register rs ns ms
      → Some (verdict valid next) ≡ judged next records r names n missing m
  unfolding judged
  enough a e₁ b e₂ c e₃ e =
      rw (
        le-leb r (length records) a,
        le-leb n (length names) b,
        le-leb m (length missing) c,
        ← first records r e₁,
        ← first names n e₂,
        ← first missing m e₃,
        ← e,
      )

-- the place, past the file or not
pub past : (file : List ℕ) (at : ℕ) → length file / 4 < at → None ≡ case_at file at
unfolding case_at
past file at h = rw (lt-leb at (length file / 4) h)

pub there
    : (file : List ℕ) (at : ℕ) → at ≤ length file / 4
    → case_over (replicate 8192 0) (replicate 8192 0) (replicate 32900 0) file (words_in file) at ≡ case_at file at
unfolding case_at
there file at h = rw (le-leb at (length file / 4) h)

-- pieces of a buffer, left out or laid
module _ (file : List ℕ) (at : ℕ) (b : List ℕ) {r : Option ℕ} {l : List ℕ} {n k : ℕ} (e : n ≡ k)
    (p : ◌≡◌ {A = Option ℕ × List ℕ} (r, l) (pieces n file at b)) (f : ℕ → List ℕ → Option Verdict) where
  pub stop : r ≡ None → None ≡ and_then (pieces k file at b) f
  unfolding and_then
  stop z = rw (← e, ← p, z)

  pub on : {next : ℕ} → r ≡ Some next → f next l ≡ and_then (pieces k file at b) f
  unfolding and_then
  on z = rw (← e, ← p, z)
