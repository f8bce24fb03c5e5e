-- The length of a name, a name after another, and a walk over the names.
use Rattle.std.specs.Prelude.{if◌then◌else◌, Option, Some, None, option_and_then}
use Prim.Native.Nat.{ℕ, suc, ◌+◌, ◌-◌, ◌≤◌, ◌<◌}
use mathlib.Core.Path.{◌≡◌, refl, sym, ◌∙◌}
use mathlib.Core.List.{List, [], ◌∷◌, ◌++◌}
use mathlib.Core.Bool.{Bool, true, false, ◌&&◌}
use native.Mathlib.Omega.{arith}
use native.Mathlib.Numerals.{add-one}
use lib.Dec.{eqb}
use borrow.Author.Tests.{eq-eqb, ne_eqb, lt-ltb, le-ltb}
use Rattle.window.specs.Mirror.{word}
use Rattle.history.specs.Image.{Table, entry}
use Rattle.writer_spec.specs.Description.{name_room, nonzeros, string_after, strings_from, pointers}

module _ (F : ℕ → ℕ) where
  -- n bytes from p on are not 0, and what follows says how many more
  abbrev pub name_so_far : (limit p n : ℕ) → ℕ
  name_so_far limit p n = n + nonzeros F (limit - n) (p + n)

  nonzeros-more : (n p : ℕ) → (F p ≡ 0 → ⊥) → nonzeros F (suc n) p ≡ suc (nonzeros F n (suc p))
  unfolding nonzeros
  nonzeros-more n p h = rw (ne_eqb (F p) 0 h)

  nonzeros_end : (n p : ℕ) → F p ≡ 0 → nonzeros F (suc n) p ≡ 0
  unfolding nonzeros
  nonzeros_end n p h = rw (eq-eqb (F p) 0 h)

  nonzeros_none : (p : ℕ) → nonzeros F 0 p ≡ 0
  unfolding nonzeros
  nonzeros_none p = refl

  pub name_goes_on
      : (limit p n : ℕ) {byte : ℕ} → n < limit → byte ≡ F (p + n) → (byte ≡ 0 → ⊥) → name_so_far limit p (n + 1) ≡ name_so_far limit p n
  name_goes_on limit p n l said other =
      let e : limit - n ≡ suc (limit - (n + 1)) = omega arith in
      let o : suc (p + n) ≡ p + (n + 1) = omega arith in
      rw (e, nonzeros-more (limit - (n + 1)) (p + n) (λ z. other (said ∙ z)), o) (omega arith)

  pub name_ends : (limit p n : ℕ) {byte : ℕ} → n < limit → byte ≡ F (p + n) → byte ≡ 0 → n ≡ name_so_far limit p n
  name_ends limit p n l said zeroed =
      let e : limit - n ≡ suc (limit - (n + 1)) = omega arith in
      rw (e, nonzeros_end (limit - (n + 1)) (p + n) (sym said ∙ zeroed)) (omega arith)

  pub name_full : (limit p n : ℕ) → limit ≤ n → n ≡ name_so_far limit p n
  name_full limit p n l =
      let e : limit - n ≡ 0 = omega arith in
      rw (e, nonzeros_none (p + n)) (omega arith)

  -- a string that does not start there, one that is no name, and a name
  pub string_misplaced : (pos p : ℕ) → (p ≡ pos → ⊥) → None ≡ string_after F pos p
  unfolding string_after
  string_misplaced pos p off = rw (ne_eqb p pos off)

  pub string_placed : (pos p : ℕ) {n : ℕ} → p ≡ pos → n ≡ nonzeros F name_room p → n < name_room → Some (pos + (n + 1)) ≡ string_after F pos p
  unfolding string_after
  string_placed pos p {n} at said l = rw (← said, eq-eqb p pos at, lt-ltb n name_room l)

  pub string_too_long : (pos p : ℕ) {n : ℕ} → n ≡ nonzeros F name_room p → name_room ≤ n → None ≡ string_after F pos p
  unfolding string_after
  string_too_long pos p {n} said l = rw (← said, le-ltb n name_room l) (refused (eqb p pos))
    where
      refused : (b : Bool) → None ≡ (if b && false then Some (pos + (n + 1)) else None)
      refused true = refl
      refused false = refl

  -- what is left of the walk over a table's names, after i of them
  abbrev pub names_left : Table → (all i pos : ℕ) → Option ℕ
  names_left t all i pos = strings_from F pos (pointers F t (all - i) i)

  pointers-more : (t : Table) (n i : ℕ) → pointers F t (suc n) i ≡ word F (entry F t i) ∷ pointers F t n (suc i)
  unfolding pointers
  pointers-more t n i = refl

  strings_at
      : (pos p : ℕ) (ps : List ℕ) {r : Option ℕ} (next : ℕ) → r ≡ string_after F pos p → r ≡ Some next → strings_from F pos (p ∷ ps) ≡ strings_from F next ps
  unfolding strings_from
  strings_at pos p ps next said there = rw (← said, there)

  strings_nowhere : (pos p : ℕ) (ps : List ℕ) {r : Option ℕ} → r ≡ string_after F pos p → r ≡ None → strings_from F pos (p ∷ ps) ≡ None
  unfolding strings_from
  strings_nowhere pos p ps said none = rw (← said, none)

  pub name-passed
      : (t : Table) (all i pos next : ℕ) {p : ℕ} {r : Option ℕ} → i < all → p ≡ word F (entry F t i + 0) → r ≡ string_after F pos p → r ≡ Some next
      → names_left t all (i + 1) next ≡ names_left t all i pos
  name-passed t all i pos next l pointer placed there =
      let e : all - i ≡ suc (all - (i + 1)) = omega arith in
      let o : entry F t i + 0 ≡ entry F t i = omega arith in
      let q = rw (pointer, o) at placed in
      rw (e, pointers-more t (all - (i + 1)) i, strings_at pos (word F (entry F t i)) (pointers F t (all - (i + 1)) (suc i)) next q there, add-one)

  pub name-refused
      : (t : Table) (all i pos : ℕ) {p : ℕ} {r : Option ℕ} → i < all → p ≡ word F (entry F t i + 0) → r ≡ string_after F pos p → r ≡ None
      → None ≡ names_left t all i pos
  name-refused t all i pos l pointer placed none =
      let e : all - i ≡ suc (all - (i + 1)) = omega arith in
      let o : entry F t i + 0 ≡ entry F t i = omega arith in
      let q = rw (pointer, o) at placed in
      rw (e, pointers-more t (all - (i + 1)) i, strings_nowhere pos (word F (entry F t i)) (pointers F t (all - (i + 1)) (suc i)) q none)

  pub names_end_lem : (t : Table) (all i pos : ℕ) → all ≤ i → Some pos ≡ names_left t all i pos
  unfolding strings_from pointers
  names_end_lem t all i pos l = let e : all - i ≡ 0 = omega arith in rw e

  -- the names of two tables, one after the other
  pub strings_append
      : (pos : ℕ) (ps qs : List ℕ) → strings_from F pos (ps ++ qs) ≡ option_and_then (λ next. strings_from F next qs) (strings_from F pos ps)
  unfolding strings_from
  strings_append pos [] qs = refl
  strings_append pos (p ∷ ps) qs = go (string_after F pos p) (λ next. strings_append next ps qs)
    where
      go
          : (r : Option ℕ) → ((next : ℕ) → strings_from F next (ps ++ qs) ≡ option_and_then (λ end. strings_from F end qs) (strings_from F next ps))
          → option_and_then (λ next. strings_from F next (ps ++ qs)) r ≡ option_and_then (λ end. strings_from F end qs) (option_and_then (λ next. strings_from F next ps) r)
      go (Some next) rest = rest next
      go None rest = refl
