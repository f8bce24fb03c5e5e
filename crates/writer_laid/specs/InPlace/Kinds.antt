-- Which relocation kinds write a word: those that the writer counts.
use Rattle.std.specs.Prelude.{if◌then◌else◌, ℕ, refl, ◌≢◌, Bool, eqb, Some, None}
use Rattle.std.proofs.Math.Path.{◌≡◌, sym}
use Rattle.std.proofs.Common.{◌∙◌, arith}
use Rattle.std.proofs.Math.Bool.{true, false}
use Rattle.std.proofs.Math.Decide.{ℕ_discrete}
use borrow.Author.Tests.{ne_eqb}
use Rattle.layout.specs.Format.{relocation_type}
use Rattle.layout.specs.Relocation.Relocation.{relocated_word}
use Rattle.layout.specs.declared.format.RelocationType.{RelocationType}
use Rattle.layout.specs.declared.format.RelocationType.TheVariants.{Unknown}
use Rattle.history.specs.LoadedModule.{Image}
use Rattle.history.specs.WellLaid.{Writes}
use Rattle.writer_spec.specs.Words.{counts, word_kinds}

-- a kind that writes no word
abbrev Silent : RelocationType → Type 0
Silent t = relocated_word t 0 0 0 ≡ None

silent_if : (b : Bool) (x y : RelocationType) → Silent x → Silent y → Silent (if b then x else y)
silent_if true x y h g = h
silent_if false x y h g = g

silent_kind : (k : ℕ) → k ≢ 2 → k ≢ 3 → k ≢ 10 → Silent (relocation_type k)
unfolding relocation_type
silent_kind k a b c =
    rw (ne_eqb k 2 a, ne_eqb k 10 c, ne_eqb k 3 b)
    (silent_if (eqb k 0) _ _ refl
    (silent_if (eqb k 4) _ _ refl
    (silent_if (eqb k 5) _ _ refl (silent_if (eqb k 6) _ _ refl (silent_if (eqb k 42) _ (Unknown k) refl refl)))))

-- kinds 2, 3 and 10 write a word, and no other
module _ (a : Image) where
  pub kind_writes : (k : ℕ) → (counts word_kinds k ≡ true → Writes a k) × (Writes a k → counts word_kinds k ≡ true)
  unfolding counts relocation_type
  kind_writes k = go (ℕ_discrete k 2) (ℕ_discrete k 3) (ℕ_discrete k 10)
    where
      go
          : Dec (k ≡ 2) → Dec (k ≡ 3) → Dec (k ≡ 10)
          → (counts word_kinds k ≡ true → Writes a k) × (Writes a k → counts word_kinds k ≡ true)
      go (yes e) f g = rw e (λ h. (0, refl), λ h. refl)
      go (no e) (yes f) g = rw f (λ h. (0, refl), λ h. refl)
      go (no e) (no f) (yes g) = rw g (λ h. (0, refl), λ h. refl)
      go (no e) (no f) (no g) = (
        λ h. let z : ◌≡◌ {A = Bool} false true = rw (ne_eqb 2 k (omega arith), ne_eqb 3 k (omega arith), ne_eqb 10 k (omega arith)) at h in
            (0, (cc)),
        λ h. let z : Some h.0 ≡ None = sym h.1 ∙ silent_kind k e f g in cc,
      )
