-- A module with lists in place of its own, one entry longer, and that a longer list needs no less room.
use Rattle.std.specs.declared.cmp.Ordering.{Ordering}
use Rattle.std.specs.declared.cmp.Ordering.TheVariants.{Less, Equal, Greater}
use Rattle.std.specs.Prelude.{◌≡◌, ℕ, zero, suc, ◌+◌, ◌≤◌, true, List, [], ◌∷◌, ◌++◌, length, Option, Some, None}
use Rattle.std.proofs.Math.Path.{refl}
use Rattle.std.proofs.Common.{sym, ap, ◌∙◌, subst}
use native.Mathlib.Omega.{arith}
use Rattle.std.proofs.Math.ListN.{length-append}
use Rattle.window.specs.Tests.{both, also}
use Rattle.window.specs.Name.{is_name, name_at-is_name, order_of}
use Rattle.register.specs.Module.{Export, Module, named_ok}
use Rattle.register.specs.Encode.{module_names, export_names}
use Rattle.register.specs.Change.{by_order, with_segment, with_indexed, with_named, put_named}
use Rattle.register.specs.declared.append.draft.Draft.{Draft}
use Rattle.register.specs.Append.Held.{words_long}
use Rattle.linker_spec.specs.Exports.{put_usable}
use Rattle.linker_spec.specs.Fit.{put_grows}
use Rattle.linker.specs.Record.Read.{named_to, indexed_to, indexed_of, name_of, address_of}
use Rattle.linker.specs.Exports.Writing.{Ground, Writing, Grows, named, none_greater}

unfoldable pub with_segments : Module → List ℕ → Module
with_segments m xs =
    record { base = m.base; size = m.size; auto = m.auto; name = m.name; segments = xs; named = m.named; indexed = m.indexed }

unfoldable pub with_indexeds : Module → List ℕ → Module
with_indexeds m xs =
    record { base = m.base; size = m.size; auto = m.auto; name = m.name; segments = m.segments; named = m.named; indexed = xs }

-- one more

module _ (m : Module) where
  pub segments-more : (xs : List ℕ) (a : ℕ) → with_segment (with_segments m xs) a ≡ with_segments m (xs ++ (a ∷ []))
  unfolding with_segment with_segments
  segments-more xs a = refl

  pub indexeds_more : (xs : List ℕ) (a : ℕ) → with_indexed (with_indexeds m xs) a ≡ with_indexeds m (xs ++ (a ∷ []))
  unfolding with_indexed with_indexeds
  indexeds_more xs a = refl

  pub segments-rest : (xs : List ℕ) → ((with_segments m xs).named ≡ m.named) × ((with_segments m xs).indexed ≡ m.indexed)
  unfolding with_segments
  segments-rest xs = (refl, refl)

  pub named-rest : (xs : List Export) → ((with_named m xs).named ≡ xs) × ((with_named m xs).indexed ≡ m.indexed)
  unfolding with_named
  named-rest xs = (refl, refl)

-- longer

module _ (g : Ground) (m : Module) where
  pub segments_grow : (xs ys : List ℕ) → length xs ≤ length ys → Grows g (with_segments m xs) (with_segments m ys)
  unfolding with_segments module_names
  segments_grow xs ys h =
      record {
        words = omega (arith, h, words_long (named g) (with_segments m xs), words_long (named g) (with_segments m ys));
        bytes = omega arith;
      }

  pub indexeds_grow : (xs ys : List ℕ) → length xs ≤ length ys → Grows g (with_indexeds m xs) (with_indexeds m ys)
  unfolding with_indexeds module_names
  indexeds_grow xs ys h =
      record {
        words = omega (arith, h, words_long (named g) (with_indexeds m xs), words_long (named g) (with_indexeds m ys));
        bytes = omega arith;
      }

  pub named_grow
      : (xs ys : List Export) → length xs ≤ length ys → length (export_names xs) ≤ length (export_names ys)
      → Grows g (with_named m xs) (with_named m ys)
  unfolding with_named module_names
  named_grow xs ys h k =
      record {
        words = omega (arith, h, words_long (named g) (with_named m xs), words_long (named g) (with_named m ys));
        bytes = omega (arith, k, length-append m.name (export_names xs), length-append m.name (export_names ys));
      }

pub full_greater
    : (g : Ground) (m m' : Module) (rs ns : List ℕ) → Grows g m m' → Writing g m None rs ns → Writing g m' None rs ns
unfolding Writing
full_greater g m m' rs ns h e = (e.0, e.1, none_greater g m m' h e.2)

-- exports put one after another

usable-longer : (xs : List Export) (name : List ℕ) (a : Option ℕ)
    → (length xs ≤ length (put_usable xs name a)) × (length (export_names xs) ≤ length (export_names (put_usable xs name a)))
unfolding put_usable
usable-longer xs name (Some a) = put_grows xs name a
usable-longer xs name None = (omega arith, omega arith)

put_ok : (xs : List Export) (name : List ℕ) (a : ℕ) → named_ok xs ≡ true → is_name name ≡ true → named_ok (put_named xs name a) ≡ true
unfolding put_named named_ok by_order
put_ok [] name a h k = also k refl
put_ok (x ∷ xs) name a h k = go (order_of name x.name) (both (is_name x.name) (named_ok xs) h) (put_ok xs name a)
  where
    go
        : (o : Ordering) → (is_name x.name ≡ true) × (named_ok xs ≡ true)
        → (named_ok xs ≡ true → is_name name ≡ true → named_ok (put_named xs name a) ≡ true)
        → named_ok
        (by_order o (record { name = name; address = a } ∷ x ∷ xs) (record { name = x.name; address = a } ∷ xs) (x ∷ put_named xs name a))
        ≡ true
    go Less b ih = also k h
    go Equal b ih = also b.0 b.1
    go Greater b ih = also b.0 (ih b.1 k)

module _ (at : ℕ) (w : List ℕ) (base : ℕ) where
  pub named-longer
      : (j i : ℕ)
      → (length (named_to at w base i) ≤ length (named_to at w base (j + i)))
      × (length (export_names (named_to at w base i)) ≤ length (export_names (named_to at w base (j + i))))
  unfolding named_to
  named-longer zero i = let z : 0 + i ≡ i = omega arith in rw z (omega arith, omega arith)
  named-longer (suc j) i =
      let z : suc j + i ≡ suc (j + i) = omega arith in
      let u = usable-longer (named_to at w base (j + i)) (name_of at w base (j + i)) (address_of at w base (j + i)) in
      let h = named-longer j i in
      rw z (omega (arith, u.0, h.0), omega (arith, u.1, h.1))

  pub named_ok_to : (i : ℕ) → named_ok (named_to at w base i) ≡ true
  unfolding named_to named_ok put_usable
  named_ok_to zero = refl
  named_ok_to (suc i) = go (address_of at w base i) (named_ok_to i)
    where
      go
          : (a : Option ℕ) → named_ok (named_to at w base i) ≡ true
          → named_ok (put_usable (named_to at w base i) (name_of at w base i) a) ≡ true
      go (Some a) h = put_ok (named_to at w base i) (name_of at w base i) a h (name_at-is_name at _ w)
      go None h = h

  pub length_indexed : (i : ℕ) → length (indexed_to at w base i) ≡ i
  unfolding indexed_to
  length_indexed zero = refl
  length_indexed (suc i) = length-append (indexed_to at w base i) (indexed_of at w base i ∷ []) ∙ omega (arith, length_indexed i)

-- a step on a draft and two buffers: what held `from m` holds `to m`, or had no room for it
abbrev pub DraftStep
    : (Module → Type 0) → (Module → Module) → (Module → Module) → Draft → List ℕ → List ℕ → Option Draft → List ℕ → List ℕ → Type 0
DraftStep P from to d rs ns r rs' ns' =
    (g : Ground) (m : Module) → P m → Writing g (from m) (Some d) rs ns → Writing g (to m) r rs' ns'

-- what a module must not have yet
abbrev pub Bare : Module → Type 0
Bare m = (m.named ≡ []) × (m.indexed ≡ [])

abbrev pub Unindexed : Module → Type 0
Unindexed m = m.indexed ≡ []

abbrev pub EmptyModule : Module → Type 0
EmptyModule m = (m.segments ≡ []) × Bare m

abbrev pub AnyModule : Module → Type 0
AnyModule m = Unit {0}

-- all three lists of a module that has none of them yet

own-segments : (m : Module) → with_segments m m.segments ≡ m
unfolding with_segments
own-segments m = refl

own-named : (m : Module) → with_named m m.named ≡ m
unfolding with_named
own-named m = refl

own_indexeds : (m : Module) → with_indexeds m m.indexed ≡ m
unfolding with_indexeds
own_indexeds m = refl

module _ (xs : List ℕ) (ys : List Export) (zs : List ℕ) where
  abbrev pub Lists : Module → Module
  Lists m = with_indexeds (with_named (with_segments m xs) ys) zs

  no_segments : (m : Module) → EmptyModule m → with_segments m [] ≡ m
  no_segments m p = ap (with_segments m) (sym p.0) ∙ own-segments m

  no_named : (m : Module) → Bare m → with_named (with_segments m xs) [] ≡ with_segments m xs
  no_named m p =
      ap (with_named (with_segments m xs)) (sym ((segments-rest m xs).0 ∙ p.0)) ∙ own-named (with_segments m xs)

  unindexed : (m : Module) → Bare m → (with_named (with_segments m xs) ys).indexed ≡ []
  unindexed m p = (named-rest (with_segments m xs) ys).1 ∙ (segments-rest m xs).1 ∙ p.1

  no_indexeds : (m : Module) → Bare m → with_indexeds (with_named (with_segments m xs) ys) [] ≡ with_named (with_segments m xs) ys
  no_indexeds m p =
      ap (with_indexeds (with_named (with_segments m xs) ys)) (sym (unindexed m p)) ∙ own_indexeds (with_named (with_segments m xs) ys)

  -- where there was no room before, there is none in the end
  full_segments : (g : Ground) (m : Module) (rs ns : List ℕ) → EmptyModule m → Writing g m None rs ns → Writing g (with_segments m xs) None rs ns
  full_segments g m rs ns p h =
      full_greater g m (with_segments m xs) rs ns
      (subst (λ x. Grows g x (with_segments m xs)) (no_segments m p) (segments_grow g m [] xs (omega arith))) h

  full_named
      : (g : Ground) (m : Module) (rs ns : List ℕ) → Bare m → Writing g (with_segments m xs) None rs ns
      → Writing g (with_named (with_segments m xs) ys) None rs ns
  unfolding export_names
  full_named g m rs ns p h =
      let n = with_segments m xs in
      full_greater g n (with_named n ys) rs ns
      (subst (λ x. Grows g x (with_named n ys)) (no_named m p) (named_grow g n [] ys (omega arith) (omega arith))) h

  full_indexeds
      : (g : Ground) (m : Module) (rs ns : List ℕ) → Bare m → Writing g (with_named (with_segments m xs) ys) None rs ns
      → Writing g (Lists m) None rs ns
  full_indexeds g m rs ns p h =
      let n = with_named (with_segments m xs) ys in
      full_greater g n (Lists m) rs ns
      (subst (λ x. Grows g x (Lists m)) (no_indexeds m p) (indexeds_grow g n [] zs (omega arith))) h

  pub full_lists : (g : Ground) (m : Module) (rs ns : List ℕ) → EmptyModule m → Writing g m None rs ns → Writing g (Lists m) None rs ns
  full_lists g m rs ns p h =
      full_indexeds g m rs ns p.1 (full_named g m rs ns p.1 (full_segments g m rs ns p h))

  module _ (d : Draft) (rs ns : List ℕ) (r₁ : Option Draft) (rs₁ ns₁ : List ℕ)
      (first : DraftStep Bare (λ m. with_segments m []) (λ m. with_segments m xs) d rs ns r₁ rs₁ ns₁) where
    segments_in : (g : Ground) (m : Module) → EmptyModule m → Writing g m (Some d) rs ns → Writing g (with_segments m xs) r₁ rs₁ ns₁
    segments_in g m p h = first g m p.1 (subst (λ x. Writing g x (Some d) rs ns) (sym (no_segments m p)) h)

    pub no_segments_in : r₁ ≡ None → DraftStep EmptyModule (λ m. m) Lists d rs ns None rs₁ ns₁
    no_segments_in e g m p h =
        full_indexeds g m rs₁ ns₁ p.1
        (full_named g m rs₁ ns₁ p.1 (subst (λ t. Writing g (with_segments m xs) t rs₁ ns₁) e (segments_in g m p h)))

    module _ (d₁ : Draft) (e₁ : r₁ ≡ Some d₁) (r₂ : Option Draft) (rs₂ ns₂ : List ℕ)
        (second : DraftStep Unindexed (λ m. with_named m []) (λ m. with_named m ys) d₁ rs₁ ns₁ r₂ rs₂ ns₂) where
      named_in : (g : Ground) (m : Module) → EmptyModule m → Writing g m (Some d) rs ns → Writing g (with_named (with_segments m xs) ys) r₂ rs₂ ns₂
      named_in g m p h =
          second g (with_segments m xs) ((segments-rest m xs).1 ∙ p.1.1)
          (subst (λ x. Writing g x (Some d₁) rs₁ ns₁) (sym (no_named m p.1))
          (subst (λ t. Writing g (with_segments m xs) t rs₁ ns₁) e₁ (segments_in g m p h)))

      pub no_named_in : r₂ ≡ None → DraftStep EmptyModule (λ m. m) Lists d rs ns None rs₂ ns₂
      no_named_in e g m p h =
          full_indexeds g m rs₂ ns₂ p.1 (subst (λ t. Writing g (with_named (with_segments m xs) ys) t rs₂ ns₂) e (named_in g m p h))

      pub lists_in
          : (d₂ : Draft) → r₂ ≡ Some d₂ → (r₃ : Option Draft) (rs₃ ns₃ : List ℕ)
          → DraftStep AnyModule (λ m. with_indexeds m []) (λ m. with_indexeds m zs) d₂ rs₂ ns₂ r₃ rs₃ ns₃ → DraftStep EmptyModule (λ m. m) Lists d rs ns r₃ rs₃ ns₃
      lists_in d₂ e₂ r₃ rs₃ ns₃ third g m p h =
          let n = with_named (with_segments m xs) ys in
          third g n tt
          (subst (λ x. Writing g x (Some d₂) rs₂ ns₂) (sym (no_indexeds m p.1))
          (subst (λ t. Writing g n t rs₂ ns₂) e₂ (named_in g m p h)))
