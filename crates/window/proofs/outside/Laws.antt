-- From the code's tests to `stride_of` and `silent_stride`.
use Rattle.std.specs.Prelude.{if◌then◌else◌}
use Rattle.std.proofs.Common.{◌≡◌, ℕ, ◌-◌, ◌/◌, ◌^◌, ◌<◌, ◌≤◌, Bool, true, false, not, List, refl, le-ltb, lt-ltb, eq-eqb, ne_eqb}
use borrow.Author.Tests.{not-true, not-false}
use Rattle.window.specs.Memory.{place}
use Rattle.window.specs.Trace.{said}
use Rattle.window.specs.Outside.{stride_of, silent_stride}

module _ (at n entry size left : ℕ) {p : ℕ} (e : p ≡ place at entry) where
  pub stride_inside : p < n → 1 ≡ stride_of at n entry size left
  unfolding stride_of
  stride_inside h = rw (← e, lt-ltb p n h)

  module _ (out : n ≤ p) where
    pub stride_no_size : size ≡ 0 → 1 ≡ stride_of at n entry size left
    unfolding stride_of
    stride_no_size z = rw (← e, le-ltb p n out, eq-eqb size 0 z)

    module _ (some : size ≡ 0 → ⊥) {f : ℕ} (d : f ≡ (2 ^ 32 - p) / size) where
      pub stride_cut : f < 1 → 1 ≡ stride_of at n entry size left
      unfolding stride_of
      stride_cut h = rw (← e, ← d, le-ltb p n out, ne_eqb size 0 some, lt-ltb f 1 h)

      module _ (fits : 1 ≤ f) where
        pub stride_fits : f < left → f ≡ stride_of at n entry size left
        unfolding stride_of
        stride_fits h = rw (← e, ← d, le-ltb p n out, ne_eqb size 0 some, le-ltb f 1 fits, lt-ltb f left h)

        pub stride_all : left ≤ f → left ≡ stride_of at n entry size left
        unfolding stride_of
        stride_all h = rw (← e, ← d, le-ltb p n out, ne_eqb size 0 some, le-ltb f 1 fits, le-ltb f left h)

one_anyway : (b : Bool) {r : ℕ} → 1 ≡ r → 1 ≡ (if b then r else 1)
one_anyway true h = h
one_anyway false h = refl

module _ (at n : ℕ) (t : List ℕ) (entry size left : ℕ) where
  pub silent_inside : {p : ℕ} → p ≡ place at entry → p < n → 1 ≡ silent_stride at n t entry size left
  unfolding silent_stride
  silent_inside e h = one_anyway (said t) (stride_inside at n entry size left e h)

  pub silent_not_yet : {b : Bool} → b ≡ said t → not b ≡ true → 1 ≡ silent_stride at n t entry size left
  unfolding silent_stride
  silent_not_yet {b} e h = rw (← e, not-true b h)

  pub silent_past : {b : Bool} {r : ℕ} → b ≡ said t → not b ≡ false → r ≡ stride_of at n entry size left → r ≡ silent_stride at n t entry size left
  unfolding silent_stride
  silent_past {b} e h d = rw (← e, not-false b h) d
