-- What helpers of the code answer that look for overlapping words.
use Rattle.std.specs.Prelude.{ℕ, ◌+◌, ◌-◌, ◌<◌, List, Bool, true, false, not, ◌&&◌, ◌||◌, leb}
use Rattle.history.specs.Image.{externals, internals, count}
use Rattle.writer_spec.specs.All.{all_below}
use Rattle.writer_spec.specs.Words.{word_count, places_apart, far_apart, word_of}
use Rattle.writer_spec.specs.declared.words.WordPlace.{WordPlace}
use Rattle.writer_spec.specs.declared.words.WordPlace.TheVariants.{InImage, InData, InBss, Nowhere}
use Rattle.writer_spec.specs.declared.words.Room.{Room}

-- a number by which the words of one area ascend
abbrev pub key_of : WordPlace → ℕ
key_of (InImage c) = c
key_of (InData t) = 0x400000000 + t
key_of (InBss t) = 0x800000000 + t
key_of Nowhere = 0

abbrev pub is_somewhere : WordPlace → Bool
is_somewhere (InImage c) = true
is_somewhere (InData t) = true
is_somewhere (InBss t) = true
is_somewhere Nowhere = false

module _ (F : ℕ → ℕ) (kinds : List ℕ) (room : Room) where
  -- a word overlaps none with a number from `from` to `to`
  unfoldable pub apart_between : WordPlace → (from to : ℕ) → Bool
  apart_between w from to = all_below (to - from) (λ i. places_apart (word_of F kinds room (from + i)) w)

  -- none of the first i external and the first j internal ones
  unfoldable pub apart_from : WordPlace → (i j : ℕ) → Bool
  apart_from w i j = apart_between w 0 i && apart_between w (count F externals) (count F externals + j)

  -- or, with `last` the greatest key of those, it is past it
  unfoldable pub clear_of : WordPlace → (i j last : ℕ) → Bool
  clear_of w i j last = not (is_somewhere w) || (leb (last + 4) (key_of w) || apart_from w i j)

  -- a word overlaps none in the lent areas, in each place, if it starts past the image's end
  unfoldable pub far_from : WordPlace → Bool
  far_from w = all_below (word_count F) (λ k. far_apart room w (word_of F kinds room k))

-- the number of the word external i or internal j
abbrev pub next_number : Bool → (external i j : ℕ) → ℕ
next_number true external i j = i
next_number false external i j = external + j

-- of the words external i and internal j, the one to look at next is there, if either is
abbrev pub ExternalFirst : (ℕ → ℕ) → (i j : ℕ) → Bool → Type 0
ExternalFirst F i j true = i < count F externals
ExternalFirst F i j false = i < count F externals → j < count F internals
