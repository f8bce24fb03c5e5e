-- What a walk over the entries of a table asks of what is done at each.
use Rattle.std.specs.Prelude.{◌≡◌, ℕ, ◌^◌, ◌<◌, List}
use Rattle.std.specs.Borrow.{MutBor}
use Rattle.window.specs.Access.{Prog}
use Rattle.window.specs.Trace.{run_t}

-- a call, which may leave window and trace so, makes f at its entry
abbrev pub Makes : (at : ℕ) → (ℕ → Prog (Unit {0})) → ((w trace : MutBor (List ℕ)) (entry : ℕ) → Unit {0} → (w' trace' : MutBor (List ℕ)) → Type 0) → Type 0
Makes at f call =
    (w trace : MutBor (List ℕ)) (entry : ℕ) (w' trace' : MutBor (List ℕ)) → entry < 2 ^ 32 → call w trace entry tt w' trace'
    → (w'.now, trace'.now) ≡ (run_t at (f entry) (w.now, trace.now)).1
