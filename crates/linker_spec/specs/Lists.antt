-- The lists that the title walks. "0x088 is next, 0x08C previous. The CRS's next heads the auto-linked list, its previous the other;
-- a head's previous is the tail."
use Rattle.std.specs.Prelude.{if◌then◌else◌, ℕ, Bool, true, false, eqb}
use Rattle.window.specs.Access.{Prog, ret, ◌>>=◌, ◌>>◌}
use Rattle.layout.specs.Header.{next_cro, previous_cro}
use Rattle.layout.specs.Segments.{field, set_field}

abbrev pub head_field : Bool → ℕ
head_field true = next_cro
head_field false = previous_cro

-- the only module of a list is its head and its tail
unfoldable pub becomes_head : (crs x base : ℕ) → Prog (Unit {0})
becomes_head crs x base = do
  set_field crs x base
  set_field base previous_cro base

unfoldable pub becomes_tail : ℕ → ℕ → Prog (Unit {0})
becomes_tail head base = do
  tail ← field head previous_cro
  set_field tail next_cro base
  set_field base previous_cro tail
  set_field head previous_cro base

-- a module goes to the end of its list
unfoldable pub register : ℕ → ℕ → Bool → Prog (Unit {0})
register crs base auto = do
  head ← field crs (head_field auto)
  if eqb head 0 then becomes_head crs (head_field auto) base else becomes_tail head base
  set_field base next_cro 0

-- the head leaves: the one after it heads the list and keeps the tail
unfoldable pub head_leaves : (crs x next previous : ℕ) → Prog (Unit {0})
head_leaves crs x next previous = do
  if eqb next 0 then ret tt else set_field next previous_cro previous
  set_field crs x next

unfoldable pub middle_leaves : ℕ → ℕ → Prog (Unit {0})
middle_leaves next previous = do
  set_field previous next_cro next
  set_field next previous_cro previous

-- a head whose tail leaves gets the one before it
unfoldable pub new_tail : (crs x base previous : ℕ) → Prog (Unit {0})
new_tail crs x base previous = do
  head ← field crs x
  if eqb head 0 then ret tt else (do
    tail ← field head previous_cro
    if eqb tail base then set_field head previous_cro previous else ret tt)

unfoldable pub tail_leaves : (crs base previous : ℕ) → Prog (Unit {0})
tail_leaves crs base previous = do
  set_field previous next_cro 0
  new_tail crs next_cro base previous
  new_tail crs previous_cro base previous

unfoldable pub other_leaves : (crs base next previous : ℕ) → Prog (Unit {0})
other_leaves crs base next previous =
    if eqb next 0 then tail_leaves crs base previous else middle_leaves next previous

-- the second head is read only if the first is another module
unfoldable pub leaves : (crs base next previous : ℕ) → Prog (Unit {0})
leaves crs base next previous = do
  first ← field crs next_cro
  if eqb first base then head_leaves crs next_cro next previous else (do
    second ← field crs previous_cro
    if eqb second base then head_leaves crs previous_cro next previous else other_leaves crs base next previous)

-- a module leaves its list; one whose previous is 0 is in none
unfoldable pub unregister : ℕ → ℕ → Prog (Unit {0})
unregister crs base = do
  next ← field base next_cro
  previous ← field base previous_cro
  if eqb previous 0 then ret tt else (do
    leaves crs base next previous
    set_field base next_cro 0
    set_field base previous_cro 0)
