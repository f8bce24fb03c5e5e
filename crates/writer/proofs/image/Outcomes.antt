-- From the tests of the two calls to the outcomes that their definitions give.
use Prim.Native.Nat.{ℕ, ◌<◌, ◌≤◌}
use mathlib.Core.Path.{◌≡◌, sym, ◌∙◌}
use mathlib.Core.List.{List}
use mathlib.Core.Bool.{Bool, true, false}
use lib.ListN.{length}
use borrow.Author.Tests.{lt-ltb, le-ltb}
use Rattle.layout.specs.Header.{header_size}
use Rattle.writer_spec.specs.Description.{image_size, image_of, described_size, read_back}
use Rattle.writer_spec.specs.Accepts.{accepts}
use Rattle.writer_spec.specs.Outcome.{left, over, write_outcome, read_outcome}

module _ (d b : List ℕ) {answer : Bool} (said : answer ≡ accepts d) where
  pub refused : answer ≡ false → left 6 0 b ≡ write_outcome d b
  unfolding write_outcome
  refused failed = rw (sym said ∙ failed)

  pub taken : answer ≡ true → accepts d ≡ true
  taken held = sym said ∙ held

  pub too_short : {size : ℕ} → answer ≡ true → size ≡ image_size d → length b < size → left 7 0 b ≡ write_outcome d b
  unfolding write_outcome
  too_short h is short = rw (taken h, lt-ltb (length b) (image_size d) (rw is at short))

  pub written
      : {size : ℕ} {done : List ℕ} → answer ≡ true → size ≡ image_size d → size ≤ length b → done ≡ over (image_of d) b
      → left 0 size done ≡ write_outcome d b
  unfolding write_outcome
  written h is room whole = rw (taken h, le-ltb (length b) (image_size d) (rw is at room), is, whole)

module _ (i b : List ℕ) where
  pub no_header : length i < header_size → left 6 0 b ≡ read_outcome i b
  unfolding read_outcome
  no_header short = rw (lt-ltb (length i) header_size short)

  module _ {size : ℕ} (header : header_size ≤ length i) (is : size ≡ described_size i) where
    pub cut_off : length i < size → left 6 0 b ≡ read_outcome i b
    unfolding read_outcome
    cut_off short = rw (le-ltb (length i) header_size header, lt-ltb (length i) (described_size i) (rw is at short))

    pub no_room : size ≤ length i → length b < size → left 7 0 b ≡ read_outcome i b
    unfolding read_outcome
    no_room whole short =
        rw (le-ltb (length i) header_size header, le-ltb (length i) (described_size i) (rw is at whole), lt-ltb (length b) (described_size i) (rw is at short))

    pub read : {done : List ℕ} → size ≤ length i → size ≤ length b → done ≡ over (read_back i) b → left 0 size done ≡ read_outcome i b
    unfolding read_outcome
    read whole room back =
        rw (le-ltb (length i) header_size header, le-ltb (length i) (described_size i) (rw is at whole), le-ltb (length b) (described_size i) (rw is at room), is, back)
