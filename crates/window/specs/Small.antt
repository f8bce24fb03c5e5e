-- A window is a list of bytes: what is read is small, and every write and every run keeps it so.
use Rattle.std.specs.Prelude.{◌≡◌, ℕ, ◌+◌, ◌%◌, ◌^◌, ◌<◌, List, length, slice_index, slice_set}
use Rattle.std.proofs.Common.{arith, get_or-set_same, get_or-set_other}
use Rattle.std.proofs.Math.Decide.{dec_lt, ℕ_discrete}
use Rattle.std.proofs.Math.Seq.{set_out}
use Rattle.window.specs.Memory.{place, byte_at, word_at, put_byte, put_bytes, put_upward}
use Rattle.window.specs.Bytes.{put_bytes_keeps, put_upward_keeps}
use Rattle.window.specs.Access.{Prog, run, run_keeps}

-- Document 01: "The window is a lent byte slice"
abbrev pub Bytes : List ℕ → Type 0
Bytes w = (i : ℕ) → slice_index w i < 256

set-bytes : (w : List ℕ) (j v : ℕ) → v < 256 → Bytes w → Bytes (slice_set w j v)
set-bytes w j v l h i = go (ℕ_discrete i j) (dec_lt j (length w))
  where
    go : Dec (i ≡ j) → Dec (j < length w) → slice_index (slice_set w j v) i < 256
    go (no n) d = rw (get_or-set_other w j i v 0 n) (h i)
    go (yes e) (yes m) = rw (e, get_or-set_same w j v 0 m) l
    go (yes e) (no m) = rw (set_out w j v (omega arith)) (h i)

module _ (at : ℕ) where
  pub byte_at-small : (w : List ℕ) (x : ℕ) → Bytes w → byte_at at w x < 256
  unfolding byte_at
  byte_at-small w x h = h (place at x)

  pub word_at-small : (w : List ℕ) (x : ℕ) → Bytes w → word_at at w x < 2 ^ 32
  unfolding word_at
  word_at-small w x h =
      omega (arith, byte_at-small w x h, byte_at-small w (x + 1) h, byte_at-small w (x + 2) h, byte_at-small w (x + 3) h)

  pub put_byte-bytes : (w : List ℕ) (x v : ℕ) → Bytes w → Bytes (put_byte at w x v)
  unfolding put_byte
  put_byte-bytes w x v h = set-bytes w (place at x) (v % 256) (omega arith) h

  pub put_bytes-bytes : (n : ℕ) (w : List ℕ) (x v : ℕ) → Bytes w → Bytes (put_bytes n at w x v)
  put_bytes-bytes n w x v h = put_bytes_keeps Bytes at put_byte-bytes n w x v h

  pub put_upward-bytes : (n : ℕ) (w : List ℕ) (x v : ℕ) → Bytes w → Bytes (put_upward n at w x v)
  put_upward-bytes n w x v h = put_upward_keeps Bytes at put_byte-bytes n w x v h

  pub run-bytes : {A : Type 0} (m : Prog A) (w : List ℕ) → Bytes w → Bytes (run at m w).1
  run-bytes m w h = run_keeps at Bytes put_byte-bytes m w h
