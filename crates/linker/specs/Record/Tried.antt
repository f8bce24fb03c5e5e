-- A step on a new record, kept or given up.
use Rattle.std.specs.Prelude.{ℕ, List, Option, Some, None}
use Rattle.register.specs.declared.append.draft.Draft.{Draft}
use Rattle.register.specs.Append.Draft.{given_up}

-- a step that had no room gives the record up
unfoldable pub tried : Draft → Option Draft → List ℕ → List ℕ → Option Draft × List ℕ × List ℕ
tried d (Some e) rs ns = (Some e, rs, ns)
tried d None rs ns = (None, (given_up rs ns d).0, (given_up rs ns d).1)
