-- How long a description is that the writer takes: one whose image would have 2^32 bytes or more has no place, and an empty one is not packed.
use Prim.Native.Nat.{ℕ, ◌+◌, ◌^◌, ◌<◌, ◌≤◌}
use mathlib.Core.Path.{◌≡◌, refl, ◌∙◌}
use mathlib.Core.List.{List, [], ◌∷◌}
use mathlib.Core.Bool.{Bool, true, false, ◌&&◌}
use native.Mathlib.Omega.{arith}
use native.Mathlib.Decide.{dec_le}
use lib.ListN.{length}
use borrow.Author.Tests.{lt-leb}
use Rattle.window.specs.Mirror.{word}
use Rattle.history.specs.Image.{count}
use Rattle.writer_spec.specs.All.{all_below}
use Rattle.writer_spec.specs.Description.{packed, named, file_of, image_size, packed_to, header_zeros, zeros, others_empty, segment_blocks, pair_blocks, pair_block, packed_from, block_after}
use Rattle.writer_spec.specs.Words.{room_of, place_exists}
use Rattle.writer_spec.specs.Accepts.{laid_out, accepts}

never : (a b : Bool) → false ≡ (a && (b && false))
never true true = refl
never true false = refl
never false b = refl

pub too_long : (d : List ℕ) → 0xffff_f000 < length d → false ≡ accepts d
unfolding accepts laid_out place_exists
too_long d long =
    let room = room_of (file_of d) (image_size d) in
    rw (lt-leb (room.size + (room.data_size + room.bss_size) + 2) (2 ^ 32) (omega arith)) (never (packed d) (named d))

pub taken_short : (d : List ℕ) → accepts d ≡ true → length d ≤ 0xffff_f000
taken_short d taken = elim (dec_le (length d) 0xffff_f000) [
  | yes short ↦ short
  | no long ↦ absurd (let z : ◌≡◌ {A = Bool} false true = too_long d (omega arith) ∙ taken in let y : ◌≡◌ {A = ℕ} 0 1 = cc in omega arith)
]

pub taken_some : (d : List ℕ) → accepts d ≡ true → 0 < length d
unfolding accepts packed packed_to header_zeros zeros all_below others_empty segment_blocks pair_blocks pair_block packed_from block_after file_of word count
taken_some [] taken = let z : ◌≡◌ {A = Bool} false true = taken in absurd (let y : ◌≡◌ {A = ℕ} 0 1 = cc in omega arith)
taken_some (x ∷ xs) taken = omega arith
