-- What is asked of a session's images together, as tests that antt computes, and that images which pass do as asked.
use Prim.Native.Nat.{ℕ, zero, suc, ◌+◌, ◌<◌}
use Rattle.std.proofs.Math.Path.{◌≡◌, refl}
use Rattle.std.proofs.Common.{sym, ◌∙◌, inl, inr}
use Rattle.std.specs.Prelude.{◌≢◌, ◌⊎◌, List, [], ◌∷◌, map, Bool, ◌&&◌, ◌||◌, Some}
use Rattle.std.proofs.Math.Bool.{true, false, not}
use native.Mathlib.Omega.{arith}
use Rattle.std.proofs.Math.Dec.{eqb, leb}
use borrow.Author.Tests.{leb-true, eqb-true, not-true}
use Rattle.window.specs.Within.{In}
use Rattle.window.specs.Tests.{both}
use Rattle.register.specs.Words.{same}
use Rattle.register.specs.Lists.{same_true, same_refl}
use Rattle.history.specs.Image.{segments, named_exports, count, module_name, file_segment}
use Rattle.history.specs.LoadedModule.{LoadCall, initialized, loaded, Image, base_of, size_of, segment_place, LentArea, Area, later_export, export_name, export_address, export_among, export_of}
use Rattle.history.specs.Below.{Each, Pairs}
use Rattle.history.specs.Demand3.{Apart, OtherName, OtherExports, ExportsOnce}
use Rattle.history_witness.specs.Tests.{all, each, meets, nth, either, apart, never_both}

-- a test of each of a list, and of each pair
unfoldable pub pairs : {A : Type 0} → (A → A → Bool) → List A → Bool
pairs f [] = true
pairs f (x ∷ xs) = meets (map (f x) xs) && pairs f xs

pub each_all : {A : Type 0} {P : A → Type 0} (f : A → Bool) → ((x : A) → f x ≡ true → P x) → (l : List A) → meets (map f l) ≡ true → Each P l
unfolding Each meets
each_all f g [] h = tt
each_all f g (x ∷ xs) h = let b = both (f x) (meets (map f xs)) h in (g x b.0, each_all f g xs b.1)

pub pairs-all
    : {A : Type 0} {R : A → A → Type 0} (f : A → A → Bool) → ((x y : A) → f x y ≡ true → R x y) → (l : List A) → pairs f l ≡ true → Pairs R l
unfolding Pairs pairs
pairs-all f g [] h = tt
pairs-all f g (x ∷ xs) h =
    let b = both (meets (map (f x) xs)) (pairs f xs) h in (each_all (f x) (g x) xs b.0, pairs-all f g xs b.1)

unequal : (a b : List ℕ) → not (same a b) ≡ true → a ≢ b
unequal a b h e =
    let z : ◌≡◌ {A = Bool} false true = sym (not-true (same a b) h) ∙ rw e (same_refl b) in
    let o : ◌≡◌ {A = ℕ} 0 1 = cc in
    omega arith

module _ (a : Image) where
  -- the ranges of its areas
  unfoldable pub lent-ranges : LoadCall → (ℕ → ℕ → Bool) → Bool
  lent-ranges (initialized base size) f = all (count a.file segments) (λ i. f (segment_place a i) (file_segment a.file i).size)
  lent-ranges (loaded l auto level) f = meets (f l.data_segment l.data_segment_size ∷ f l.bss_segment l.bss_segment_size ∷ [])

  unfoldable pub ranges : (ℕ → ℕ → Bool) → List Bool
  ranges f = f (base_of a.load_call) (size_of a.load_call) ∷ lent-ranges a.load_call f ∷ []

  abbrev Covered : (ℕ → ℕ → Bool) → ℕ → Type 0
  Covered f q = (l : ℕ) × (n : ℕ) × (f l n ≡ true) × In l n q

  each_lent : (f : ℕ → ℕ → Bool) (c : LoadCall) → lent-ranges c f ≡ true → (q : ℕ) → LentArea a c q → Covered f q
  unfolding lent-ranges LentArea
  each_lent f (initialized base size) h q i =
      (_, _, each _ (λ i. f (segment_place a i) (file_segment a.file i).size) h i.0 i.1, i.2)
  each_lent f (loaded l auto level) h q (inl i) =
      (_, _, nth (f l.data_segment l.data_segment_size ∷ f l.bss_segment l.bss_segment_size ∷ []) h 0, i)
  each_lent f (loaded l auto level) h q (inr i) =
      (_, _, nth (f l.data_segment l.data_segment_size ∷ f l.bss_segment l.bss_segment_size ∷ []) h 1, i)

  pub each_range : (f : ℕ → ℕ → Bool) → meets (ranges f) ≡ true → (q : ℕ) → Area a q → Covered f q
  unfolding ranges Area
  each_range f h q (inl i) = (_, _, nth (ranges f) h 0, i)
  each_range f h q (inr i) = each_lent f a.load_call (nth (ranges f) h 1) q i

  -- all in n bytes from p on
  abbrev covers : (p n l k : ℕ) → Bool
  covers p n l k = eqb k 0 || (leb p l && leb (l + k) (p + n))

  unfoldable pub in_test : ℕ → ℕ → Bool
  in_test p n = meets (ranges (covers p n))

  pub in_true : (p n : ℕ) → in_test p n ≡ true → (q : ℕ) → Area a q → In p n q
  unfolding in_test
  in_true p n h q i =
      let (l, k, e, j) = each_range (covers p n) h q i in
      go l k (either (eqb k 0) _ e) j
    where
      go : (l k : ℕ) → (eqb k 0 ≡ true) ⊎ ((leb p l && leb (l + k) (p + n)) ≡ true) → In l k q → In p n q
      go l k (inl e) j = absurd (omega (arith, eqb-true))
      go l k (inr e) j =
          let b = both (leb p l) (leb (l + k) (p + n)) e in
          let x = leb-true p l b.0 in
          let y = leb-true (l + k) (p + n) b.1 in
          (omega arith, omega arith)

  -- an export's name is the name of one of the table
  abbrev ExportNamed : ℕ → List ℕ → Type 0
  ExportNamed n name = (i : ℕ) × (i < n) × (name ≡ export_name a i)

  more : (n : ℕ) (name : List ℕ) → ExportNamed n name → ExportNamed (suc n) name
  more n name (i, l, e) = (i, omega arith, e)

  export_named : (n : ℕ) (name : List ℕ) (p : ℕ) → export_among a n name ≡ Some p → ExportNamed n name
  unfolding export_among later_export
  export_named zero name p h = let z : ◌≡◌ {A = ℕ} 0 1 = cc in absurd (omega arith)
  export_named (suc n) name p h = go (λ g. export_named n name p g) (same name (export_name a n)) refl h
    where
      go : (export_among a n name ≡ Some p → ExportNamed n name) → (b : Bool) → same name (export_name a n) ≡ b
          → later_export b (export_address a n) (export_among a n name) ≡ Some p → ExportNamed (suc n) name
      go f true s g = (n, omega arith, same_true name (export_name a n) s)
      go f false s g = more n name (f g)

  unfoldable pub once_test : Bool
  once_test =
      all (count a.file named_exports) (λ i. all (count a.file named_exports) (λ j. eqb i j || not (same (export_name a i) (export_name a j))))

  pub once_true : once_test ≡ true → ExportsOnce a
  unfolding once_test ExportsOnce
  once_true h i j l m e p q x y =
      go (either (eqb i j) _
      (each _ (λ j. eqb i j || not (same (export_name a i) (export_name a j)))
      (each _ (λ i. all (count a.file named_exports) (λ j. eqb i j || not (same (export_name a i) (export_name a j)))) h i l) j m))
    where
      go : (eqb i j ≡ true) ⊎ (not (same (export_name a i) (export_name a j)) ≡ true) → i ≡ j
      go (inl z) = eqb-true i j z
      go (inr z) = absurd (unequal _ _ z e)

-- of two images
unfoldable pub apart_test_lem : Image → Image → Bool
apart_test_lem a b = meets (ranges a (λ l n. meets (ranges b (λ k m. apart l (l + n) k (k + m)))))

pub apart_true : (a b : Image) → apart_test_lem a b ≡ true → Apart a b
unfolding apart_test_lem Apart
apart_true a b h q i j =
    let (l, n, e, x) = each_range a (λ l n. meets (ranges b (λ k m. apart l (l + n) k (k + m)))) h q i in
    let (k, m, f, y) = each_range b (λ k m. apart l (l + n) k (k + m)) e q j in
    never_both l (l + n) k (k + m) q f x.0 x.1 y.0 y.1

unfoldable pub name_test : Image → Image → Bool
name_test a b = not (same (module_name a.file) (module_name b.file))

pub name_true : (a b : Image) → name_test a b ≡ true → OtherName a b
unfolding name_test OtherName
name_true a b h = unequal (module_name a.file) (module_name b.file) h

unfoldable pub exports_test : Image → Image → Bool
exports_test a b =
    all (count a.file named_exports) (λ i. all (count b.file named_exports) (λ j. not (same (export_name a i) (export_name b j))))

pub exports_true : (a b : Image) → exports_test a b ≡ true → OtherExports a b
unfolding exports_test OtherExports export_of
exports_true a b h name p q x y =
    let (i, l, e) = export_named a _ name p x in
    let (j, m, f) = export_named b _ name q y in
    let g = each _ (λ i. all (count b.file named_exports) (λ j. not (same (export_name a i) (export_name b j)))) h i l in
    unequal (export_name a i) (export_name b j) (each _ (λ j. not (same (export_name a i) (export_name b j))) g j m) (sym e ∙ f)
