-- Exports in ascending order of their names: where a name stands among them, and that an export put keeps the order.
use Rattle.std.specs.declared.cmp.Ordering.{Ordering}
use Rattle.std.specs.declared.cmp.Ordering.TheVariants.{Less, Equal, Greater}
use Rattle.std.specs.Ordering.{is_eq, is_lt}
use Rattle.std.specs.Prelude.{if◌then◌else◌, ◌≡◌, ℕ, zero, suc, ◌+◌, ◌<◌, ◌≤◌, Bool, true, false, ◌&&◌, List, [], ◌∷◌, ◌++◌, length, take, drop, set, ◌==◌, nat_lt, slice_index_or, slice_set, refl, Option, Some, None, Result, Ok, Err}
use Rattle.std.proofs.Math.Path.{sym, ap}
use Rattle.std.proofs.Common.{◌∙◌, ltb-true, ltb-false, eq-eqb, ne_eqb}
use native.Mathlib.Omega.{arith}
use Rattle.std.proofs.Math.Decide.{dec_lt}
use Rattle.window.specs.Name.{order_of, order_self, order_same, order_turned, turned, before_trans}
use Rattle.window.specs.Tests.{both, also}
use Rattle.register.specs.Words.{same}
use Rattle.register.specs.Module.{Export, find_from, ascending}
use Rattle.register.specs.Change.{by_order, put_named}

pub same_order : (a b : List ℕ) → same a b ≡ is_eq (order_of a b)
unfolding same order_of
same_order [] [] = refl
same_order [] (b ∷ t) = refl
same_order (a ∷ s) [] = refl
same_order (a ∷ s) (b ∷ t) = go (nat_lt a b) (nat_lt b a) refl refl (same_order s t)
  where
    go
        : (x y : Bool) → nat_lt a b ≡ x → nat_lt b a ≡ y → same s t ≡ is_eq (order_of s t)
        → (a == b && same s t) ≡ is_eq (if x then Less else (if y then Greater else order_of s t))
    go true y p q ih = let l = ltb-true a b p in rw (ne_eqb a b (λ e. omega arith))
    go false true p q ih = let l = ltb-true b a q in rw (ne_eqb a b (λ e. omega arith))
    go false false p q ih =
        let e : a ≡ b = omega (arith, ltb-false a b p, ltb-false b a q) in
        rw (eq-eqb a b e) ih

-- a name before another is not the same
pub before_differs : (a b : List ℕ) → order_of a b ≡ Less → same a b ≡ false
before_differs a b e = same_order a b ∙ rw e

pub is_lt_lem : (o : Ordering) → is_lt o ≡ true → o ≡ Less
is_lt_lem Less e = refl
is_lt_lem Equal e = let z : ◌≡◌ {A = ℕ} 0 1 = cc in absurd (omega arith)
is_lt_lem Greater e = let z : ◌≡◌ {A = ℕ} 0 1 = cc in absurd (omega arith)

-- a name before the first of ascending ones is none of them
pub not-among
    : (i : ℕ) (name : List ℕ) (xs : List Export) → ascending xs ≡ true
    → ((x : Export) (t : List Export) → xs ≡ x ∷ t → order_of name x.name ≡ Less)
    → find_from i xs name ≡ None
unfolding find_from ascending
not-among i name [] e h = refl
not-among i name (x ∷ []) e h = rw (before_differs name x.name (h x [] refl))
not-among i name (x ∷ y ∷ xs) e h =
    let b = both (is_lt (order_of x.name y.name)) (ascending (y ∷ xs)) e in
    let f : order_of name x.name ≡ Less = h x (y ∷ xs) refl in
    rw (before_differs name x.name f)
    (not-among (i + 1) name (y ∷ xs) b.1
    (λ z t q. before_trans name x.name z.name f
    (let d : z ≡ y = cc in rw d (is_lt_lem (order_of x.name y.name) b.0))))

-- an export put stands before the first whose name comes after its own, and replaces the address of one with the same name
module _ (x : Export) (xs : List Export) (name : List ℕ) (a : ℕ) where
  pub put_first : order_of name x.name ≡ Less → put_named (x ∷ xs) name a ≡ record { name = name; address = a } ∷ x ∷ xs
  unfolding put_named by_order
  put_first e = rw e

  pub put_same : order_of name x.name ≡ Equal → put_named (x ∷ xs) name a ≡ record { name = x.name; address = a } ∷ xs
  unfolding put_named by_order
  put_same e = rw e

-- an export put twice is put once
pub put_twice : (xs : List Export) (name : List ℕ) (a : ℕ) → put_named (put_named xs name a) name a ≡ put_named xs name a
unfolding put_named by_order
put_twice [] name a = rw (order_self name)
put_twice (x ∷ xs) name a = go (order_of name x.name) refl (put_twice xs name a)
  where
    new : Export
    new = record { name = name; address = a }

    again : Export
    again = record { name = x.name; address = a }

    go
        : (o : Ordering) → order_of name x.name ≡ o → put_named (put_named xs name a) name a ≡ put_named xs name a
        → put_named (by_order o (new ∷ x ∷ xs) (again ∷ xs) (x ∷ put_named xs name a)) name a ≡ by_order o (new ∷ x ∷ xs) (again ∷ xs) (x ∷ put_named xs name a)
    go Less e h = put_same new (x ∷ xs) name a (order_self name)
    go Equal e h = put_same again xs name a e
    go Greater e h = rw e (ap (λ t. x ∷ t) h)

-- an export put keeps the order

order_back : (a b : List ℕ) → order_of a b ≡ Greater → order_of b a ≡ Less
order_back a b e = order_turned a b ∙ ap turned e

-- what is put before a list that it may stand before, may stand before the list with the export in it
head-put
    : (x : Export) (xs : List Export) (name : List ℕ) (a : ℕ) → ascending (x ∷ xs) ≡ true → order_of x.name name ≡ Less
    → ascending (put_named xs name a) ≡ true → ascending (x ∷ put_named xs name a) ≡ true
unfolding put_named ascending by_order
head-put x [] name a h f k = rw f
head-put x (y ∷ ys) name a h f k = go (order_of name y.name) k
  where
    go
        : (o : Ordering)
        → ascending
        (by_order o (record { name = name; address = a } ∷ y ∷ ys) (record { name = y.name; address = a } ∷ ys) (y ∷ put_named ys name a))
        ≡ true
        → ascending
        (x ∷ by_order o (record { name = name; address = a } ∷ y ∷ ys) (record { name = y.name; address = a } ∷ ys) (y ∷ put_named ys name a))
        ≡ true
    go Less e = also (ap is_lt f) e
    go Equal e = also (both (is_lt (order_of x.name y.name)) (ascending (y ∷ ys)) h).0 e
    go Greater e = also (both (is_lt (order_of x.name y.name)) (ascending (y ∷ ys)) h).0 e

pub tail_ascends : (x : Export) (xs : List Export) → ascending (x ∷ xs) ≡ true → ascending xs ≡ true
unfolding ascending
tail_ascends x [] h = refl
tail_ascends x (y ∷ ys) h = (both (is_lt (order_of x.name y.name)) (ascending (y ∷ ys)) h).1

-- only the first name counts for what stands before a list
renamed : (x : Export) (xs : List Export) (a : ℕ) → ascending (x ∷ xs) ≡ true → ascending (record { name = x.name; address = a } ∷ xs) ≡ true
unfolding ascending
renamed x [] a h = refl
renamed x (y ∷ ys) a h = h

pub put_ascends : (xs : List Export) (name : List ℕ) (a : ℕ) → ascending xs ≡ true → ascending (put_named xs name a) ≡ true
unfolding put_named ascending by_order
put_ascends [] name a h = refl
put_ascends (x ∷ xs) name a h = go (order_of name x.name) refl (put_ascends xs name a (tail_ascends x xs h))
  where
    go
        : (o : Ordering) → order_of name x.name ≡ o → ascending (put_named xs name a) ≡ true
        → ascending
        (by_order o (record { name = name; address = a } ∷ x ∷ xs) (record { name = x.name; address = a } ∷ xs) (x ∷ put_named xs name a))
        ≡ true
    go Less e k = also (ap is_lt e) h
    go Equal e k = renamed x xs a h
    go Greater e k = head-put x xs name a h (order_back name x.name e) k

-- where a name stands, the first export being number i: at the one that has it, else before the first whose name comes after it
unfoldable pub position_from : ℕ → List Export → List ℕ → Result ℕ ℕ
position_from i [] name = Err i
position_from i (x ∷ xs) name = by_order (order_of name x.name) (Err i) (Ok i) (position_from (i + 1) xs name)

unfoldable pub position_of : List Export → List ℕ → Result ℕ ℕ
position_of xs name = position_from 0 xs name

unfoldable pub found_at : Result ℕ ℕ → Option ℕ
found_at (Ok k) = Some k
found_at (Err k) = None

pub position_finds : (i : ℕ) (xs : List Export) (name : List ℕ) → ascending xs ≡ true → found_at (position_from i xs name) ≡ find_from i xs name
unfolding position_from find_from found_at by_order
position_finds i [] name h = refl
position_finds i (x ∷ xs) name h = go (order_of name x.name) refl (position_finds (i + 1) xs name (tail_ascends x xs h))
  where
    go
        : (o : Ordering) → order_of name x.name ≡ o → found_at (position_from (i + 1) xs name) ≡ find_from (i + 1) xs name
        → found_at (by_order o (Err i) (Ok i) (position_from (i + 1) xs name))
        ≡ (if same name x.name then Some i else find_from (i + 1) xs name)
    go Less e k = sym (not-among i name (x ∷ xs) h (λ y t q. let d : y ≡ x = cc in rw d e))
    go Equal e k = rw (same_order name x.name, e)
    go Greater e k = rw (same_order name x.name, e) k

-- a search between two bounds: names below the first come before the one looked for, the one at the second comes after it

abbrev pub an_export : Export
an_export = record { name = []; address = 0 }

abbrev pub name_in : List Export → ℕ → List ℕ
name_in xs k = (slice_index_or xs k an_export).name

pub record Between (xs : List Export) (name : List ℕ) (low high : ℕ) : Type 0 where
  pub below : (j : ℕ) → j < low → order_of name (name_in xs j) ≡ Greater
  pub above : high < length xs → order_of name (name_in xs high) ≡ Less
  pub ordered : low ≤ high
  pub inside : high ≤ length xs

first_before : (x : Export) (xs : List Export) (k : ℕ) → ascending (x ∷ xs) ≡ true → k < length xs → order_of x.name (name_in xs k) ≡ Less
unfolding ascending
first_before x [] k h l = absurd (omega arith)
first_before x (y ∷ ys) zero h l =
    is_lt_lem (order_of x.name y.name) (both (is_lt (order_of x.name y.name)) (ascending (y ∷ ys)) h).0
first_before x (y ∷ ys) (suc k) h l =
    let b = both (is_lt (order_of x.name y.name)) (ascending (y ∷ ys)) h in
    before_trans x.name y.name (name_in ys k) (is_lt_lem (order_of x.name y.name) b.0)
    (first_before y ys k b.1 (omega arith))

ascending-at : (xs : List Export) (j k : ℕ) → ascending xs ≡ true → j < k → k < length xs → order_of (name_in xs j) (name_in xs k) ≡ Less
ascending-at [] j k h l g = absurd (omega arith)
ascending-at (x ∷ xs) zero zero h l g = absurd (omega arith)
ascending-at (x ∷ xs) zero (suc k) h l g = first_before x xs k h (omega arith)
ascending-at (x ∷ xs) (suc j) zero h l g = absurd (omega arith)
ascending-at (x ∷ xs) (suc j) (suc k) h l g = ascending-at xs j k (tail_ascends x xs h) (omega arith) (omega arith)

position_at
    : (i : ℕ) (xs : List Export) (name : List ℕ) (k : ℕ) → k < length xs → ((j : ℕ) → j < k → order_of name (name_in xs j) ≡ Greater)
    → order_of name (name_in xs k) ≡ Equal → position_from i xs name ≡ Ok (i + k)
unfolding position_from by_order
position_at i [] name k l h e = absurd (omega arith)
position_at i (x ∷ xs) name zero l h e = let z : i + 0 ≡ i = omega arith in rw (z, e)
position_at i (x ∷ xs) name (suc k) l h e =
    let z : i + suc k ≡ i + 1 + k = omega arith in
    rw (z, h 0 (omega arith)) (position_at (i + 1) xs name k (omega arith) (λ j g. h (suc j) (omega arith)) e)

position_before
    : (i : ℕ) (xs : List Export) (name : List ℕ) (k : ℕ) → k ≤ length xs → ((j : ℕ) → j < k → order_of name (name_in xs j) ≡ Greater)
    → (k < length xs → order_of name (name_in xs k) ≡ Less) → position_from i xs name ≡ Err (i + k)
unfolding position_from by_order
position_before i [] name zero l h e = let z : i + 0 ≡ i = omega arith in rw z
position_before i [] name (suc k) l h e = absurd (omega arith)
position_before i (x ∷ xs) name zero l h e = let z : i + 0 ≡ i = omega arith in rw (z, e (omega arith))
position_before i (x ∷ xs) name (suc k) l h e =
    let z : i + suc k ≡ i + 1 + k = omega arith in
    rw (z, h 0 (omega arith)) (position_before (i + 1) xs name k (omega arith) (λ j g. h (suc j) (omega arith)) (λ g. e (omega arith)))

pub between-all : (xs : List Export) (name : List ℕ) → Between xs name 0 (length xs)
between-all xs name = record { below = λ j l. absurd (omega arith); above = λ l. absurd (omega arith); ordered = omega arith; inside = omega arith }

module _ {xs : List Export} {name : List ℕ} {low high : ℕ} (b : Between xs name low high) where
  pub between_none : high ≤ low → Err low ≡ position_of xs name
  unfolding position_of
  between_none l =
      let e : low ≡ high = omega (arith, b.ordered) in
      let z : 0 + low ≡ low = omega arith in
      sym (position_before 0 xs name low (omega (arith, e, b.inside)) b.below (λ g. rw e (b.above (omega (arith, e)))) ∙ ap Err z)

  module _ (h : ascending xs ≡ true) (middle : ℕ) (l : low ≤ middle) (g : middle < high) where
    -- names up to one that comes before come before
    lower : order_of name (name_in xs middle) ≡ Greater → (j : ℕ) → j < middle + 1 → order_of name (name_in xs j) ≡ Greater
    lower e j k = elim (dec_lt j middle) [
      | yes y ↦ order_turned (name_in xs j) name
          ∙ ap turned (before_trans (name_in xs j) (name_in xs middle) name (ascending-at xs j middle h y (omega (arith, b.inside)))
          (order_back name (name_in xs middle) e))
      | no y ↦ let z : j ≡ middle = omega arith in rw z e
    ]

    pub between-after : order_of name (name_in xs middle) ≡ Greater → Between xs name (middle + 1) high
    between-after e = record { below = lower e; above = b.above; ordered = omega arith; inside = b.inside }

    pub between_before : order_of name (name_in xs middle) ≡ Less → Between xs name low middle
    between_before e = record { below = b.below; above = λ k. e; ordered = l; inside = omega (arith, b.inside) }

    pub between-same : order_of name (name_in xs middle) ≡ Equal → Ok middle ≡ position_of xs name
    unfolding position_of
    between-same e =
        let n : name ≡ name_in xs middle = order_same name (name_in xs middle) e in
        let z : 0 + middle ≡ middle = omega arith in
        ap Ok (sym z)
        ∙ sym (position_at 0 xs name middle (omega (arith, b.inside))
        (λ j k. order_turned (name_in xs j) name
        ∙ ap turned (ap (order_of (name_in xs j)) n ∙ ascending-at xs j middle h k (omega (arith, b.inside))))
        e)

-- an export put where its name stands

put-from-at
    : (i : ℕ) (xs : List Export) (name : List ℕ) (a j : ℕ) → position_from i xs name ≡ Ok j
    → (k : ℕ) × (j ≡ i + k) × (k < length xs) × (put_named xs name a ≡ slice_set xs k (record { name = name_in xs k; address = a }))
unfolding position_from put_named by_order
put-from-at i [] name a j e = let z : ◌≡◌ {A = ℕ} 0 1 = cc in absurd (omega arith)
put-from-at i (x ∷ xs) name a j e = go (order_of name x.name) e (put-from-at (i + 1) xs name a j)
  where
    go
        : (o : Ordering) → by_order o (Err i) (Ok i) (position_from (i + 1) xs name) ≡ Ok j
        → (position_from (i + 1) xs name ≡ Ok j
        → (k : ℕ) × (j ≡ i + 1 + k) × (k < length xs) × (put_named xs name a ≡ slice_set xs k (record { name = name_in xs k; address = a })))
        → (k : ℕ) × (j ≡ i + k) × (k < suc (length xs))
        × (by_order o (record { name = name; address = a } ∷ x ∷ xs) (record { name = x.name; address = a } ∷ xs) (x ∷ put_named xs name a)
        ≡ slice_set (x ∷ xs) k (record { name = name_in (x ∷ xs) k; address = a }))
    go Less p ih = let z : ◌≡◌ {A = ℕ} 0 1 = cc in absurd (omega arith)
    go Equal p ih = let z : i ≡ j = cc in (0, omega arith, omega arith, refl)
    go Greater p ih = let h = ih p in (suc h.0, omega (arith, h.1), omega (arith, h.2), ap (λ t. x ∷ t) h.3)

put-from_before
    : (i : ℕ) (xs : List Export) (name : List ℕ) (a j : ℕ) → position_from i xs name ≡ Err j
    → (k : ℕ) × (j ≡ i + k) × (k ≤ length xs) × (put_named xs name a ≡ take k xs ++ (record { name = name; address = a } ∷ drop k xs))
unfolding position_from put_named by_order
put-from_before i [] name a j e = let z : i ≡ j = cc in (0, omega arith, omega arith, refl)
put-from_before i (x ∷ xs) name a j e = go (order_of name x.name) e (put-from_before (i + 1) xs name a j)
  where
    new : Export
    new = record { name = name; address = a }

    go
        : (o : Ordering) → by_order o (Err i) (Ok i) (position_from (i + 1) xs name) ≡ Err j
        → (position_from (i + 1) xs name ≡ Err j
        → (k : ℕ) × (j ≡ i + 1 + k) × (k ≤ length xs) × (put_named xs name a ≡ take k xs ++ (new ∷ drop k xs)))
        → (k : ℕ) × (j ≡ i + k) × (k ≤ suc (length xs))
        × (by_order o (new ∷ x ∷ xs) (record { name = x.name; address = a } ∷ xs) (x ∷ put_named xs name a)
        ≡ take k (x ∷ xs) ++ (new ∷ drop k (x ∷ xs)))
    go Less p ih = let z : i ≡ j = cc in (0, omega arith, omega arith, refl)
    go Equal p ih = let z : ◌≡◌ {A = ℕ} 0 1 = cc in absurd (omega arith)
    go Greater p ih = let h = ih p in (suc h.0, omega (arith, h.1), omega (arith, h.2), ap (λ t. x ∷ t) h.3)

module _ (xs : List Export) (name : List ℕ) (a k : ℕ) where
  pub put-at
      : position_of xs name ≡ Ok k
      → (k < length xs) × (put_named xs name a ≡ slice_set xs k (record { name = name_in xs k; address = a }))
  unfolding position_of
  put-at e =
      let h = put-from-at 0 xs name a k e in
      let z : h.0 ≡ k = omega (arith, h.1) in
      (omega (arith, h.2), h.3 ∙ ap (λ j. set xs j (record { name = name_in xs j; address = a })) z)

  pub put_before
      : position_of xs name ≡ Err k
      → (k ≤ length xs) × (put_named xs name a ≡ take k xs ++ (record { name = name; address = a } ∷ drop k xs))
  unfolding position_of
  put_before e =
      let h = put-from_before 0 xs name a k e in
      let z : h.0 ≡ k = omega (arith, h.1) in
      (omega (arith, h.2), h.3 ∙ ap (λ j. take j xs ++ (record { name = name; address = a } ∷ drop j xs)) z)
