-- The session file: what makes it one. Its head is in `session::head`, a step in `session::step`.
use Rattle.std.specs.Prelude.{ℕ, zero, suc, ◌+◌, ◌*◌, List, Bool, true, ◌&&◌, length, leb, is_some}
use Rattle.session.specs.Head.{step_count, step_table, window_length, window_offset}
use Rattle.session.specs.Steps.{step_at}

-- the first n steps are calls
unfoldable pub are_steps : List ℕ → ℕ → Bool
are_steps file zero = true
are_steps file (suc k) = are_steps file k && is_some (step_at file k)

-- "At most 64 steps, window at most 32,768 bytes, file 20 to 49,152, parts inside it, calls 1 to 3, unused words 0"
unfoldable pub is_session : List ℕ → Bool
is_session file =
    leb 20 (length file)
    && (leb (length file) 49152
    && (leb (step_count file) 64
    && (leb (window_length file) 32768
    && (leb (step_table file + 36 * step_count file) (length file)
    && (leb (window_offset file + window_length file) (length file)
    && are_steps file (step_count file))))))
