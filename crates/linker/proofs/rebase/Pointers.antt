-- Tables whose entries hold pointers: one pointer an entry in a row inside, and past entries wholly outside.
use Rattle.std.proofs.Common.{◌≡◌, ℕ, zero, suc, ◌+◌, ◌-◌, ◌*◌, ◌%◌, ◌^◌, ◌<◌, ◌≤◌, Bool, true, false, ◌&&◌, leb, List, [], ◌∷◌, take, refl, ap, ◌∙◌, mul-le-mul_right, suc-mul, arith, le-leb, leb-true}
use borrow.Author.Tests.{lt-leb}
use Rattle.window.specs.Tests.{both}
use Rattle.window.specs.Memory.{◌⊕◌, place}
use Rattle.window.specs.Access.{Prog}
use Rattle.window.specs.Loop.{loop}
use Rattle.window.specs.Trace.{State, run_t}
use Rattle.window.specs.TraceRuns.{left, step_made}
use Rattle.window.specs.Row.{Stands, stands_part}
use Rattle.window.specs.Outside.{Idle, part_read}
use Rattle.layout.specs.Segments.{entry_at}
use Rattle.layout.specs.declared.tables.PointerTable.{PointerTable}
use Rattle.linker_spec.specs.Rebase.{move_word, move_pointers, pointers_of}
use Rattle.linker.proofs.rebase.Laws.{word_kept, pointers-more}

-- a loop with none of its turns made, as code counts
pub from_start
    : (at : ℕ) (body : ℕ → Unit {0} → Prog (Unit {0})) (count : ℕ) (s : State) → run_t at (loop body 0 (count - 0) tt) s ≡ run_t at (loop body 0 count tt) s
from_start at body count s = let z : count - 0 ≡ count = omega arith in rw z

-- the pointer of entry i of a table in a row
module _ (n start first size count i : ℕ) (fits : first + 4 ≤ size) (low : start + count * size ≤ 2 ^ 32) (inside : start + count * size ≤ n)
    (l : i < count) {q : ℕ} (eq : q ≡ start + first + i * size) where
  row_end : i * size + first + 4 ≤ count * size
  row_end =
      let m : suc i * size ≤ count * size = mul-le-mul_right size l in
      let e : suc i * size ≡ i * size + size = suc-mul i size in
      omega (arith, m, e)

  pub single_inside : q + 4 ≤ n
  single_inside = omega (arith, row_end)

  pub single_stands : (at table : ℕ) → start ≡ place at table → Stands at n (entry_at table i size ⊕ first) 4 q
  single_stands at table e =
      let k : ℕ = i * size + first in
      let a : start + k ≡ q = omega (arith, eq) in
      let b : (table + k) % 2 ^ 32 ≡ entry_at table i size ⊕ first = omega arith in
      rw (← a, ← b) (stands_part at n table (count * size) start k 4 (e, low, inside) row_end (omega arith))

single_moved
    : (at : ℕ) (forward : Bool) (base entry first : ℕ) (s : State) {v : State} → v ≡ (run_t at (move_word forward base (entry ⊕ first)) s).1
    → v ≡ (run_t at (move_pointers forward base entry (first ∷ [])) s).1
unfolding move_pointers run_t
single_moved at forward base entry first s h = ap left (pointers-more at forward base entry first [] s refl h)

abbrev pub move_pointer : Bool → (base size first table i : ℕ) → Prog (Unit {0})
move_pointer forward base size first table i = move_pointers forward base (entry_at table i size) (first ∷ [])

module _ (at : ℕ) (forward : Bool) (base size first table i count : ℕ) (s : State) where
  pub single_turn
      : {r : Unit {0} × State} {v : State} → run_t at (loop (λ j _. move_pointer forward base size first table j) i (count - i) tt) s ≡ r → i < count
      → v ≡ (run_t at (move_word forward base (entry_at table i size ⊕ first)) s).1
      → run_t at (loop (λ j _. move_pointer forward base size first table j) (i + 1) (count - (i + 1)) tt) v ≡ r
  single_turn rest l h =
      step_made at (λ e. move_pointers forward base e (first ∷ [])) (λ j. entry_at table j size) i count s rest l refl
      (single_moved at forward base (entry_at table i size) first s h)

-- a table of one pointer an entry
pub one_pointer
    : (at : ℕ) (forward : Bool) (base : ℕ) (t : PointerTable) (table count : ℕ) (s : State) {v : State} → t.pointers ≡ 1
    → v ≡ (run_t at (loop (λ i _. move_pointer forward base t.entry_size t.first table i) 0 count tt) s).1
    → v ≡ (run_t at (loop (λ i _. move_pointers forward base (entry_at table i t.entry_size) (pointers_of t)) 0 count tt) s).1
one_pointer at forward base t table count s e h = rw e h

-- the words at xs lie within an entry
abbrev Within : ℕ → List ℕ → Type 0
Within size [] = Unit {0}
Within size (x ∷ xs) = (x + 4 ≤ size) × Within size xs

module _ (at : ℕ) (forward : Bool) (base size : ℕ) where
  pointers-idle : (xs : List ℕ) → Within size xs → (n : ℕ) → Idle at (λ entry. move_pointers forward base entry (take n xs)) size
  unfolding move_pointers run_t
  pointers-idle [] f zero w t kept x out = refl
  pointers-idle [] f (suc n) w t kept x out = refl
  pointers-idle (y ∷ ys) f zero w t kept x out = refl
  pointers-idle (y ∷ ys) f (suc n) w t kept x out =
      pointers-idle ys f.1 n w t kept x out
      ∙ ap left (pointers-more at forward base x y (take n ys) (w, t) refl
      (word_kept at forward base (x ⊕ y) (w, t) (part_read at w t kept x size out y f.0) refl))

-- the tests of `pointers_within`
module _ (t : PointerTable) where
  abbrev pub within : Bool
  within = leb (t.first + 4) t.entry_size && (leb (t.second + 4) t.entry_size && leb (t.third + 4) t.entry_size)

  pub within_first : within ≡ true → t.first + 4 ≤ t.entry_size
  within_first e = leb-true _ _ (both (leb (t.first + 4) t.entry_size) _ e).0

  within_all : within ≡ true → Within t.entry_size (t.first ∷ t.second ∷ t.third ∷ [])
  within_all e =
      let a = both (leb (t.first + 4) t.entry_size) _ e in
      let b = both (leb (t.second + 4) t.entry_size) _ a.1 in
      (within_first e, (leb-true _ _ b.0, (leb-true _ _ b.1, tt)))

  module _ (size : ℕ) (ez : size ≡ t.entry_size) where
    pub past_first : size < t.first + 4 → false ≡ within
    past_first l = rw (← ez, lt-leb (t.first + 4) size l)

    module _ (fits : t.first + 4 ≤ size) where
      pub past_second : size < t.second + 4 → false ≡ within
      past_second l = rw (← ez, le-leb (t.first + 4) size fits, lt-leb (t.second + 4) size l)

      pub by_third : t.second + 4 ≤ size → leb (t.third + 4) size ≡ within
      by_third l = rw (← ez, le-leb (t.first + 4) size fits, le-leb (t.second + 4) size l)

-- entries wholly outside have no pointer to move, where the pointers lie within an entry
pub entries-idle
    : (at : ℕ) (forward : Bool) (base : ℕ) (t : PointerTable) → within t ≡ true
    → Idle at (λ entry. move_pointers forward base entry (pointers_of t)) t.entry_size
entries-idle at forward base t e = pointers-idle at forward base t.entry_size (t.first ∷ t.second ∷ t.third ∷ []) (within_all t e) t.pointers
