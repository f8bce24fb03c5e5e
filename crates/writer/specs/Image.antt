-- What helpers of the code leave in a buffer, by its byte at each offset.
use Rattle.std.specs.Prelude.{if◌then◌else◌, ℕ, ◌<◌, ◌≡◌, List, length, ltb}
use Rattle.writer_spec.specs.Description.{file_of}

-- the bytes of F from `from` up to `to`, and those of G elsewhere
unfoldable pub between : (from to : ℕ) → (ℕ → ℕ) → (ℕ → ℕ) → ℕ → ℕ
between from to F G o = if ltb o from then G o else (if ltb o to then F o else G o)

-- a buffer as long as before, with these bytes
pub record Holds (before after : List ℕ) (F : ℕ → ℕ) : Type 0 where
  pub kept : length after ≡ length before
  pub bytes : (o : ℕ) → o < length before → file_of after o ≡ F o
