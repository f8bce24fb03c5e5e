-- What a session file keeps to.
use Rattle.std.specs.Prelude.{ℕ, ◌+◌, ◌*◌, ◌≤◌, ◌≡◌, true, ◌&&◌, List, length, leb}
use Rattle.std.proofs.Common.{leb-true}
use Rattle.window.specs.Tests.{both}
use Rattle.session.specs.Head.{step_count, step_table, window_length, window_offset}
use Rattle.session.specs.File.{are_steps, is_session}

pub session_parts
    : (file : List ℕ) → is_session file ≡ true
    → (step_count file ≤ 64) × (window_length file ≤ 32768) × (window_offset file + window_length file ≤ length file)
unfolding is_session
session_parts file e =
    let n = length file in
    let t₆ = leb (window_offset file + window_length file) n in
    let r₆ = t₆ && are_steps file (step_count file) in
    let r₅ = leb (step_table file + 36 * step_count file) n && r₆ in
    let r₄ = leb (window_length file) 32768 && r₅ in
    let r₃ = leb (step_count file) 64 && r₄ in
    let a = (both (leb 20 n) (leb n 49152 && r₃) e).1 in
    let b = (both (leb n 49152) r₃ a).1 in
    let c = both (leb (step_count file) 64) r₄ b in
    let d = both (leb (window_length file) 32768) r₅ c.1 in
    let f = (both (leb (step_table file + 36 * step_count file) n) r₆ d.1).1 in
    (leb-true _ _ c.0, leb-true _ _ d.0, leb-true _ _ (both t₆ (are_steps file (step_count file)) f).0)
