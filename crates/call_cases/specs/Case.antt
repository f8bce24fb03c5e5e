-- What a stored case says of its call.
use Rattle.std.specs.Prelude.{if◌then◌else◌, ℕ, ◌+◌, List, get_or, eqb}
use Rattle.linker_spec.specs.declared.call.Call.{Call}
use Rattle.linker_spec.specs.declared.call.Call.TheVariants.{Initialize, Load, Unload}
use Rattle.linker_spec.specs.Outcome.{Buffers, Outcome, load_arguments}
use Rattle.linker_spec.specs.Touches.{touches_of}
use Rattle.history.specs.Sessions.{given}

-- the call of the case at a place, and its arguments
unfoldable pub stored_call : List ℕ → ℕ → Call
stored_call ws at =
    let w : ℕ → ℕ = λ k. get_or ws (at + k) 0 in
    if eqb (w 1) 1 then Initialize (w 7) (w 8)
    else (if eqb (w 1) 2 then Load (load_arguments (w 7) (w 8) (w 9) (w 10) (w 11) (w 12)) (w 13) (w 14)
    else Unload (w 7))

-- what it gives, and its touches
unfoldable pub called : List ℕ → ℕ → Buffers → Outcome
called ws at b = given (stored_call ws at) (get_or ws (at + 2) 0) b

unfoldable pub touched_by : List ℕ → ℕ → Buffers → ℕ × ℕ
touched_by ws at b = touches_of (stored_call ws at) (get_or ws (at + 2) 0) b
