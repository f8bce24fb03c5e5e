-- What the writer's two calls leave: "It refuses exactly a description .. (6), then an output buffer shorter than the image (7); bytes past the
-- image, and with a refusal all, stay. Beside any refusal .. the value is 0."
use Rattle.std.specs.Prelude.{if◌then◌else◌, ℕ, List, ◌++◌, Result, Ok, Err, ◌||◌, length, drop, ltb}
use Rattle.layout.specs.Header.{header_size}
use Rattle.writer_spec.specs.Description.{image_size, image_of, described_size, read_back}
use Rattle.writer_spec.specs.Accepts.{accepts}
use Rattle.writer_spec.specs.declared.error.ImageError.{ImageError}
use Rattle.writer_spec.specs.declared.error.ImageError.TheVariants.{Malformed, NoRoom}

-- a number, a value and a buffer
pub record Left : Type 0 where
  pub number : ℕ
  pub value : ℕ
  pub buffer : List ℕ

abbrev pub left : ℕ → ℕ → List ℕ → Left
left n v b = record { number = n; value = v; buffer = b }

-- the number of a refusal
abbrev pub number : ImageError → ℕ
number Malformed = 6
number NoRoom = 7

-- a result beside a buffer: 0 and the value, or a refusal's number and 0
abbrev pub told : Result ℕ ImageError → List ℕ → Left
told (Ok value) b = left 0 value b
told (Err refusal) b = left (number refusal) 0 b

-- the bytes in front, and after them what stood there
abbrev pub over : List ℕ → List ℕ → List ℕ
over bytes buffer = bytes ++ drop (length bytes) buffer

-- `write_image`
unfoldable pub write_outcome : (description buffer : List ℕ) → Left
write_outcome d b =
    if accepts d then (if ltb (length b) (image_size d) then left 7 0 b else left 0 (image_size d) (over (image_of d) b)) else left 6 0 b

-- `read_image`: it judges no image but one too short to hold what its header says
unfoldable pub read_outcome : (image buffer : List ℕ) → Left
read_outcome i b =
    if ltb (length i) header_size || ltb (length i) (described_size i) then left 6 0 b else
    (if ltb (length b) (described_size i) then left 7 0 b else left 0 (described_size i) (over (read_back i) b))
