-- The last step of `initialize`.
use Rattle.std.specs.Prelude.{ℕ}
use Rattle.window.specs.Access.{Prog, ◌>>◌}
use Rattle.layout.specs.Header.{next_cro, previous_cro}
use Rattle.layout.specs.Segments.{set_field}

-- "no module hangs off it yet"
unfoldable pub clear_list_fields : ℕ → Prog (Unit {0})
clear_list_fields base = set_field base next_cro 0 >> set_field base previous_cro 0
