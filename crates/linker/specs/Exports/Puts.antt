-- Exports put to others one after another: two runs in name order merged, and the entries of a table put by halves.
use Rattle.std.specs.declared.cmp.Ordering.{Ordering}
use Rattle.std.specs.declared.cmp.Ordering.TheVariants.{Less, Equal, Greater}
use Rattle.std.specs.Ordering.{is_lt}
use Rattle.std.specs.Prelude.{◌≡◌, ℕ, zero, suc, ◌+◌, ◌-◌, ◌<◌, true, List, [], ◌∷◌, ◌++◌, length, Option, Some, None}
use Rattle.std.proofs.Math.Path.{refl, sym, ap}
use Rattle.std.proofs.Common.{◌∙◌}
use native.Mathlib.Omega.{arith}
use Rattle.window.specs.Name.{order_of, order_self, order_same, order_turned, turned, before_trans}
use Rattle.window.specs.Tests.{both}
use Rattle.register.specs.Module.{Export, ascending}
use Rattle.register.specs.Change.{by_order, put_named}
use Rattle.register.specs.Order.{name_in, is_lt_lem, put_first, put_same, put_ascends, tail_ascends}
use Rattle.linker_spec.specs.Exports.{put_usable}
use Rattle.linker.specs.Record.Read.{name_of, address_of, named_to}

unfoldable pub puts : List Export → List Export → List Export
puts xs [] = xs
puts xs (y ∷ ys) = puts (put_named xs y.name y.address) ys

-- a name before each of theirs
unfoldable pub BeforeAll : List ℕ → List Export → Type 0
BeforeAll name [] = Unit {0}
BeforeAll name (x ∷ xs) = (order_of name x.name ≡ Less) × BeforeAll name xs

after_is : (a b : List ℕ) → order_of a b ≡ Less → order_of b a ≡ Greater
after_is a b e = order_turned a b ∙ ap turned e

before_is : (a b : List ℕ) → order_of a b ≡ Greater → order_of b a ≡ Less
before_is a b e = order_turned a b ∙ ap turned e

all_trans : (a b : List ℕ) (xs : List Export) → order_of a b ≡ Less → BeforeAll b xs → BeforeAll a xs
unfolding BeforeAll
all_trans a b [] e h = tt
all_trans a b (x ∷ xs) e h = (before_trans a b x.name e h.0, all_trans a b xs e h.1)

first_two : (x y : Export) (xs : List Export) → ascending (x ∷ y ∷ xs) ≡ true → order_of x.name y.name ≡ Less
unfolding ascending
first_two x y xs h = is_lt_lem (order_of x.name y.name) (both (is_lt (order_of x.name y.name)) (ascending (y ∷ xs)) h).0

pub ascends_all : (x : Export) (xs : List Export) → ascending (x ∷ xs) ≡ true → BeforeAll x.name xs
unfolding BeforeAll
ascends_all x [] h = tt
ascends_all x (y ∷ ys) h =
    let e = first_two x y ys h in
    (e, all_trans x.name y.name ys e (ascends_all y ys (tail_ascends x (y ∷ ys) h)))

before_list : (name : List ℕ) (y : Export) (ys : List Export) → order_of name y.name ≡ Less → ascending (y ∷ ys) ≡ true → BeforeAll name (y ∷ ys)
unfolding BeforeAll
before_list name y ys e h = (e, all_trans name y.name ys e (ascends_all y ys h))

-- one export put

put-after : (x : Export) (xs : List Export) (name : List ℕ) (a : ℕ) → order_of name x.name ≡ Greater → put_named (x ∷ xs) name a ≡ x ∷ put_named xs name a
unfolding put_named by_order
put-after x xs name a e = rw e

put_front : (xs : List Export) (name : List ℕ) (a : ℕ) → BeforeAll name xs → put_named xs name a ≡ record { name = name; address = a } ∷ xs
unfolding BeforeAll put_named
put_front [] name a h = refl
put_front (x ∷ xs) name a h = put_first x xs name a h.0

-- put twice, the later one counts
put-over : (xs : List Export) (name : List ℕ) (a b : ℕ) → put_named (put_named xs name a) name b ≡ put_named xs name b
unfolding put_named by_order
put-over [] name a b = rw (order_self name)
put-over (x ∷ xs) name a b = go (order_of name x.name) refl (put-over xs name a b)
  where
    go
        : (o : Ordering) → order_of name x.name ≡ o → put_named (put_named xs name a) name b ≡ put_named xs name b
        → put_named
        (by_order o (record { name = name; address = a } ∷ x ∷ xs) (record { name = x.name; address = a } ∷ xs) (x ∷ put_named xs name a)) name b
        ≡ by_order o (record { name = name; address = b } ∷ x ∷ xs) (record { name = x.name; address = b } ∷ xs) (x ∷ put_named xs name b)
    go Less e ih = rw (order_self name)
    go Equal e ih = rw e
    go Greater e ih = rw e (ap (λ t. x ∷ t) ih)

-- two of different names are put in either order
module _ (n m : List ℕ) (a b : ℕ) (e : order_of n m ≡ Less) where
  abbrev N : Export
  N = record { name = n; address = a }

  put_comm : (xs : List Export) → put_named (put_named xs n a) m b ≡ put_named (put_named xs m b) n a
  unfolding put_named by_order
  put_comm [] = rw (e, after_is n m e)
  put_comm (x ∷ xs) = go (order_of n x.name) refl (put_comm xs)
    where
      later : order_of n x.name ≡ Greater → order_of m x.name ≡ Greater
      later f = after_is x.name m (before_trans x.name n m (before_is n x.name f) e)

      front
          : (o : Ordering) → order_of n x.name ≡ Less
          → N ∷ by_order o (record { name = m; address = b } ∷ x ∷ xs) (record { name = x.name; address = b } ∷ xs) (x ∷ put_named xs m b)
          ≡ put_named (by_order o (record { name = m; address = b } ∷ x ∷ xs) (record { name = x.name; address = b } ∷ xs) (x ∷ put_named xs m b)) n a
      front Less f = rw e
      front Equal f = rw f
      front Greater f = rw f

      go
          : (o : Ordering) → order_of n x.name ≡ o → put_named (put_named xs n a) m b ≡ put_named (put_named xs m b) n a
          → put_named (by_order o (N ∷ x ∷ xs) (record { name = x.name; address = a } ∷ xs) (x ∷ put_named xs n a)) m b
          ≡ put_named (put_named (x ∷ xs) m b) n a
      go Less f ih = rw (after_is n m e) (front (order_of m x.name) f)
      go Equal f ih =
          let l : order_of m x.name ≡ Greater = ap (order_of m) (sym (order_same n x.name f)) ∙ after_is n m e in
          rw (l, f)
      go Greater f ih = rw (later f, f) (ap (λ t. x ∷ t) ih)

-- a list put

pub puts_ascend : (xs ys : List Export) → ascending xs ≡ true → ascending (puts xs ys) ≡ true
unfolding puts
puts_ascend xs [] h = h
puts_ascend xs (y ∷ ys) h = puts_ascend (put_named xs y.name y.address) ys (put_ascends xs y.name y.address h)

-- the first stays before those that come after it
puts_first : (x : Export) (xs ys : List Export) → BeforeAll x.name ys → puts (x ∷ xs) ys ≡ x ∷ puts xs ys
unfolding puts BeforeAll
puts_first x xs [] h = refl
puts_first x xs (y ∷ ys) h =
    ap (λ t. puts t ys) (put-after x xs y.name y.address (after_is x.name y.name h.0))
    ∙ puts_first x (put_named xs y.name y.address) ys h.1

pub puts_none : (ys : List Export) → ascending ys ≡ true → puts [] ys ≡ ys
unfolding puts put_named
puts_none [] h = refl
puts_none (y ∷ ys) h = puts_first y [] ys (ascends_all y ys h) ∙ ap (λ t. y ∷ t) (puts_none ys (tail_ascends y ys h))

-- two runs merged, by the order of their first names
module _ (x y : Export) (xs ys : List Export) where
  pub merge_left : order_of x.name y.name ≡ Less → ascending (y ∷ ys) ≡ true → puts (x ∷ xs) (y ∷ ys) ≡ x ∷ puts xs (y ∷ ys)
  merge_left e h = puts_first x xs (y ∷ ys) (before_list x.name y ys e h)

  pub merge_right : order_of x.name y.name ≡ Greater → ascending (y ∷ ys) ≡ true → puts (x ∷ xs) (y ∷ ys) ≡ y ∷ puts (x ∷ xs) ys
  unfolding puts
  merge_right e h =
      ap (λ t. puts t ys) (put_first x xs y.name y.address (before_is x.name y.name e))
      ∙ puts_first y (x ∷ xs) ys (ascends_all y ys h)

  -- of one name, only the later one
  pub merge_same : order_of x.name y.name ≡ Equal → ascending (x ∷ xs) ≡ true → puts (x ∷ xs) (y ∷ ys) ≡ puts xs (y ∷ ys)
  unfolding puts
  merge_same e h =
      let n : x.name ≡ y.name = order_same x.name y.name e in
      ap (λ t. puts t ys)
      (put_same x xs y.name y.address (ap (order_of y.name) n ∙ order_self y.name)
      ∙ sym (put_front xs x.name y.address (ascends_all x xs h)) ∙ ap (λ t. put_named xs t y.address) n)

-- two runs of which the first one's last name comes before the second one's first are merged as they stand
ordered_runs
    : (x : Export) (xs : List Export) (y : Export) (ys : List Export) → ascending (x ∷ xs) ≡ true → ascending (y ∷ ys) ≡ true
    → order_of (name_in (x ∷ xs) (length xs)) y.name ≡ Less → (puts (x ∷ xs) (y ∷ ys) ≡ x ∷ xs ++ (y ∷ ys)) × BeforeAll x.name (y ∷ ys)
ordered_runs x [] y ys h k e =
    let b = before_list x.name y ys e k in
    (puts_first x [] (y ∷ ys) b ∙ ap (λ t. x ∷ t) (puts_none (y ∷ ys) k), b)
ordered_runs x (z ∷ xs) y ys h k e =
    let ih = ordered_runs z xs y ys (tail_ascends x (z ∷ xs) h) k e in
    let b = all_trans x.name z.name (y ∷ ys) (first_two x z xs h) ih.1 in
    (puts_first x (z ∷ xs) (y ∷ ys) b ∙ ap (λ t. x ∷ t) ih.0, b)

pub merge_ordered
    : (xs ys : List Export) → 0 < length xs → 0 < length ys → ascending xs ≡ true → ascending ys ≡ true
    → order_of (name_in xs (length xs - 1)) (name_in ys 0) ≡ Less → puts xs ys ≡ xs ++ ys
merge_ordered [] ys l m h k e = absurd (omega arith)
merge_ordered (x ∷ xs) [] l m h k e = absurd (omega arith)
merge_ordered (x ∷ xs) (y ∷ ys) l m h k e =
    let z : length (x ∷ xs) - 1 ≡ length xs = omega arith in
    (ordered_runs x xs y ys h k (ap (λ n. order_of (name_in (x ∷ xs) n) y.name) (sym z) ∙ e)).0

-- an export put to what is put
puts_later : (name : List ℕ) (a : ℕ) (xs ys : List Export) → BeforeAll name ys → puts (put_named xs name a) ys ≡ put_named (puts xs ys) name a
unfolding puts BeforeAll
puts_later name a xs [] h = refl
puts_later name a xs (y ∷ ys) h =
    ap (λ t. puts t ys) (put_comm name y.name a y.address h.0 xs)
    ∙ puts_later name a (put_named xs y.name y.address) ys h.1

puts-put : (xs ys : List Export) (name : List ℕ) (a : ℕ) → ascending ys ≡ true → puts xs (put_named ys name a) ≡ put_named (puts xs ys) name a
unfolding puts put_named by_order
puts-put xs [] name a h = refl
puts-put xs (y ∷ ys) name a h =
    go (order_of name y.name) refl (puts-put (put_named xs y.name y.address) ys name a (tail_ascends y ys h))
  where
    go
        : (o : Ordering) → order_of name y.name ≡ o
        → puts (put_named xs y.name y.address) (put_named ys name a) ≡ put_named (puts (put_named xs y.name y.address) ys) name a
        → puts xs (by_order o (record { name = name; address = a } ∷ y ∷ ys) (record { name = y.name; address = a } ∷ ys) (y ∷ put_named ys name a))
        ≡ put_named (puts (put_named xs y.name y.address) ys) name a
    go Less e ih = puts_later name a xs (y ∷ ys) (before_list name y ys e h)
    go Equal e ih =
        let n : name ≡ y.name = order_same name y.name e in
        ap (λ t. puts t ys) (sym (put-over xs y.name y.address a))
        ∙ puts_later y.name a (put_named xs y.name y.address) ys (ascends_all y ys h)
        ∙ ap (λ t. put_named (puts (put_named xs y.name y.address) ys) t a) (sym n)
    go Greater e ih = ih

-- the exports of n entries of a table from number `from` on

module _ (at : ℕ) (w : List ℕ) (base : ℕ) where
  unfoldable pub named_from : ℕ → ℕ → List Export
  named_from from zero = []
  named_from from (suc n) = put_usable (named_from from n) (name_of at w base (from + n)) (address_of at w base (from + n))

  pub from_none : (from : ℕ) → named_from from 0 ≡ []
  unfolding named_from
  from_none from = refl

  pub from_one : (i : ℕ) → named_from i 1 ≡ put_usable [] (name_of at w base i) (address_of at w base i)
  unfolding named_from
  from_one i = let z : i + 0 ≡ i = omega arith in rw z

  usable_ascends : (xs : List Export) (name : List ℕ) (x : Option ℕ) → ascending xs ≡ true → ascending (put_usable xs name x) ≡ true
  unfolding put_usable
  usable_ascends xs name (Some a) h = put_ascends xs name a h
  usable_ascends xs name None h = h

  pub from_ascends : (from n : ℕ) → ascending (named_from from n) ≡ true
  unfolding named_from ascending
  from_ascends from zero = refl
  from_ascends from (suc n) = usable_ascends (named_from from n) (name_of at w base (from + n)) (address_of at w base (from + n)) (from_ascends from n)

  puts-usable
      : (xs ys : List Export) (name : List ℕ) (x : Option ℕ) → ascending ys ≡ true → puts xs (put_usable ys name x) ≡ put_usable (puts xs ys) name x
  unfolding put_usable
  puts-usable xs ys name (Some a) h = puts-put xs ys name a h
  puts-usable xs ys name None h = refl

  -- by two parts
  pub from_parts : (from n m : ℕ) → puts (named_from from n) (named_from (from + n) m) ≡ named_from from (n + m)
  unfolding named_from puts
  from_parts from n zero = let z : n + 0 ≡ n = omega arith in rw z
  from_parts from n (suc m) =
      let z : n + suc m ≡ suc (n + m) = omega arith in
      let q : from + n + m ≡ from + (n + m) = omega arith in
      rw (z, q)
      (puts-usable (named_from from n) (named_from (from + n) m) (name_of at w base (from + (n + m))) (address_of at w base (from + (n + m)))
      (from_ascends (from + n) m)
      ∙ ap (λ t. put_usable t (name_of at w base (from + (n + m))) (address_of at w base (from + (n + m)))) (from_parts from n m))

  pub from_start : (n : ℕ) → named_from 0 n ≡ named_to at w base n
  unfolding named_from named_to
  from_start zero = refl
  from_start (suc n) =
      let z : 0 + n ≡ n = omega arith in
      rw z (ap (λ t. put_usable t (name_of at w base n) (address_of at w base n)) (from_start n))
