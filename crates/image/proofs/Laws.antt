-- The length of an image that was written is within the buffer.
use Rattle.std.specs.Prelude.{if◌then◌else◌}
use Prim.Native.Nat.{ℕ, ◌≤◌}
use mathlib.Core.Path.{◌≡◌, refl, ap}
use mathlib.Core.List.{List}
use mathlib.Core.Bool.{Bool, true, false}
use native.Mathlib.Omega.{arith}
use lib.ListN.{length, length-append, length-drop}
use lib.Dec.{ltb}
use borrow.Author.Tests.{ltb-false}
use Rattle.writer_spec.specs.Description.{image_size, image_of}
use Rattle.writer_spec.specs.FirstBytes.{first-length}
use Rattle.writer_spec.specs.Accepts.{accepts}
use Rattle.writer_spec.specs.Outcome.{Left, left, over, write_outcome}

module _ (d b : List ℕ) where
  -- the buffer keeps its length under an image that fits
  over-length : image_size d ≤ length b → length (over (image_of d) b) ≡ length b
  unfolding image_of
  over-length room = simp (length-append, length-drop, first-length) (omega arith)

  pub length-fits : {size : ℕ} (after : List ℕ) → left 0 size after ≡ write_outcome d b → size ≤ length after
  unfolding write_outcome
  length-fits {size} after said = go (accepts d) (ltb (length b) (image_size d)) refl said
    where
      go
          : (taken short : Bool) → ltb (length b) (image_size d) ≡ short
          → left 0 size after ≡ (if taken then (if short then left 7 0 b else left 0 (image_size d) (over (image_of d) b)) else left 6 0 b)
          → size ≤ length after
      go false short is e = absurd (omega (arith, ap (λ (x : Left). x.number) e))
      go true true is e = absurd (omega (arith, ap (λ (x : Left). x.number) e))
      go true false is e =
          let value : size ≡ image_size d = ap (λ (x : Left). x.value) e in
          let buffer : after ≡ over (image_of d) b = ap (λ (x : Left). x.buffer) e in
          let room : image_size d ≤ length b = ltb-false (length b) (image_size d) is in
          rw (value, buffer) (omega (arith, over-length room))
