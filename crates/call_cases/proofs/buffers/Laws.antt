-- From the branches to the definitions of `Buffers`.
use Rattle.std.specs.Prelude.{Option, Some, None, Ok, Err}
use Prim.Native.Nat.{ℕ, ◌+◌, ◌/◌, ◌≤◌, ◌<◌}
use mathlib.Core.Path.{◌≡◌, sym, ap, ◌∙◌}
use mathlib.Core.List.{List}
use mathlib.Core.Bool.{Bool, true, false}
use lib.ListN.{length, get_or}
use borrow.Author.Tests.{le-leb, lt-leb}
use Rattle.register.specs.Words.{words_in, same}
use Rattle.case_reader.specs.Pieces.{pieces}
use Rattle.linker_spec.specs.Outcome.{Buffers}
use Rattle.call_cases.specs.Buffers.{change, lays, laid, compared}
use Rattle.call_cases.specs.declared.buffers.Difference.TheVariants.{Window, Records, Names, Missing}

-- the pieces of two buffers

abbrev Two : Type 0
Two = Option ℕ × List ℕ × List ℕ

pub past : (file : List ℕ) (at : ℕ) (b a : List ℕ) → length file / 4 < at → ◌≡◌ {A = Two} (None, b, a) (laid file at b a)
unfolding laid
past file at b a h = rw (lt-leb at (length file / 4) h)

module _ (file : List ℕ) (at : ℕ) (b a : List ℕ) (h : at ≤ length file / 4) {n m : ℕ} (en : n ≡ get_or (words_in file) at 0)
    (em : m ≡ get_or (words_in file) (at + 1) 0) {x : Option ℕ} {b₂ : List ℕ} (eb : ◌≡◌ {A = Option ℕ × List ℕ} (x, b₂) (pieces n file (at + 2) b)) where
  there : lays n m file (at + 2) a (x, b₂) ≡ laid file at b a
  unfolding laid
  there = rw (le-leb at (length file / 4) h, ← en, ← em, ← eb)

  pub not_before : x ≡ None → ◌≡◌ {A = Two} (None, b₂, a) (laid file at b a)
  unfolding lays
  not_before z = ap (λ (t : Option ℕ). lays n m file (at + 2) a (t, b₂)) (sym z) ∙ there

  module _ (next : ℕ) (z : x ≡ Some next) {y : Option ℕ} {a₂ : List ℕ} (ea : ◌≡◌ {A = Option ℕ × List ℕ} (y, a₂) (pieces n file (at + 2) a)) where
    on : change m file next b₂ (y, a₂) ≡ laid file at b a
    unfolding lays
    on = ap (λ (t : Option ℕ × List ℕ). change m file next b₂ t) ea ∙ ap (λ (t : Option ℕ). lays n m file (at + 2) a (t, b₂)) (sym z) ∙ there

    pub not_after : y ≡ None → ◌≡◌ {A = Two} (None, b₂, a₂) (laid file at b a)
    unfolding change
    not_after u = ap (λ (t : Option ℕ). change m file next b₂ (t, a₂)) (sym u) ∙ on

    pub all_laid
        : {e : ℕ} {v : Option ℕ} {a₃ : List ℕ} → y ≡ Some e → ◌≡◌ {A = Option ℕ × List ℕ} (v, a₃) (pieces m file next a₂)
        → ◌≡◌ {A = Two} (v, b₂, a₃) (laid file at b a)
    unfolding change
    all_laid u p = ap (λ (t : Option ℕ × List ℕ). (t.0, b₂, t.1)) p ∙ ap (λ (t : Option ℕ). change m file next b₂ (t, a₂)) (sym u) ∙ on

-- the comparison, buffer after buffer

module _ (b a : Buffers) {s₁ : Bool} (e₁ : s₁ ≡ same b.window a.window) where
  pub other_window : s₁ ≡ false → Err Window ≡ compared b a
  unfolding compared
  other_window h = rw (← e₁, h)

  module _ (h₁ : s₁ ≡ true) {s₂ : Bool} (e₂ : s₂ ≡ same b.records a.records) where
    pub other-records : s₂ ≡ false → Err Records ≡ compared b a
    unfolding compared
    other-records h = rw (← e₁, h₁, ← e₂, h)

    module _ (h₂ : s₂ ≡ true) {s₃ : Bool} (e₃ : s₃ ≡ same b.names a.names) where
      pub other-names : s₃ ≡ false → Err Names ≡ compared b a
      unfolding compared
      other-names h = rw (← e₁, h₁, ← e₂, h₂, ← e₃, h)

      module _ (h₃ : s₃ ≡ true) {s₄ : Bool} (e₄ : s₄ ≡ same b.missing a.missing) where
        pub other_missing : s₄ ≡ false → Err Missing ≡ compared b a
        unfolding compared
        other_missing h = rw (← e₁, h₁, ← e₂, h₂, ← e₃, h₃, ← e₄, h)

        pub all_same : s₄ ≡ true → Ok tt ≡ compared b a
        unfolding compared
        all_same h = rw (← e₁, h₁, ← e₂, h₂, ← e₃, h₃, ← e₄, h)
