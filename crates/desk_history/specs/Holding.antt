-- An import holds its address in the bytes of its module's areas alone: bytes that agree there hold the same.
use Rattle.std.specs.Prelude.{ℕ, ◌+◌, ◌<◌, ◌≡◌, List, [], ◌∷◌, Some}
use Rattle.std.proofs.Math.Path.{sym}
use Rattle.std.proofs.Common.{◌∙◌}
use native.Mathlib.Omega.{arith}
use Rattle.window.specs.Within.{Agree}
use Rattle.window.specs.Mirror.{word_same}
use Rattle.layout.specs.Format.{relocation_type}
use Rattle.layout.specs.Relocation.Relocation.{relocated_word}
use Rattle.history.specs.Below.{Each}
use Rattle.history.specs.Image.{externals, count, tag, kind}
use Rattle.history.specs.LoadedModule.{Image, address, handler, Area}
use Rattle.history.specs.Imports.{Import, Holds}
use Rattle.history.specs.WellLaid.{external, WordAt, WellLaid}
use Rattle.history.specs.Demand3.{ImportClause, CrsClause, AllHold}
use Rattle.history.specs.Steps.Batch.{Sort, writes, writes_not, sort, word_nothing}
use Rattle.history.specs.Sessions.Lists.{each_mono}

-- what two things of each give
pub Each-both
    : {A : Type 0} (P Q R : A → Type 0) (xs : List A) → ((a : A) → P a → Q a → R a) → Each P xs → Each Q xs → Each R xs
unfolding Each
Each-both P Q R [] f h g = tt
Each-both P Q R (x ∷ xs) f h g = (f x h.0 g.0, Each-both P Q R xs f h.1 g.1)

-- where an external entry gives a word, one of the image's relocated words stands
word-there
    : (m : Image) (j p d a v : ℕ) → j < count m.file externals → address m (tag m.file externals j) ≡ Some p
    → relocated_word (relocation_type (kind m.file externals j)) d a p ≡ Some v → WordAt m (external j) p
unfolding WordAt
word-there m j p d a v l e r = go (sort (relocation_type (kind m.file externals j)))
  where
    go : Sort (relocation_type (kind m.file externals j)) → WordAt m (external j) p
    go (writes f) = (l, f 0 0 0, e)
    go (writes_not f) = absurd (word_nothing v (sym r ∙ f d a p))

module _ (M N : ℕ → ℕ) where
  module _ (m : Image) (laid : WellLaid m) (same : Agree (Area m) M N) where
    holds_on : (i : Import) (symbol : ℕ) → Holds M m i symbol → Holds N m i symbol
    unfolding Holds
    holds_on i symbol h e f j b l g p v a r =
        let w = word-there m j p _ symbol v (omega (arith, b.run.inside)) a r in
        sym (word_same M N p (λ k c. same (p + k) (laid.in_place_lem.words_inside_lem (external j) p w (p + k) (omega arith, omega arith))))
        ∙ h e f j b l g p v a r

    import_on : (S : List Image) → ImportClause S M m → ImportClause S N m
    unfolding ImportClause
    import_on S h i l = (each_mono _ _ S (λ x f p e. holds_on i p (f p e)) (h i l).0, λ o. holds_on i (handler m) ((h i l).1 o))

    crs_on : CrsClause M m → CrsClause N m
    unfolding CrsClause
    crs_on h c i l p e = holds_on i (handler m) (h c i l p e)

  -- of modules that are well laid
  pub all_hold_on : (S : List Image) → Each (λ m. WellLaid m × Agree (Area m) M N) S → AllHold S M → AllHold S N
  unfolding AllHold
  all_hold_on S g h =
      Each-both (λ m. WellLaid m × Agree (Area m) M N) (λ m. ImportClause S M m × CrsClause M m) (λ m. ImportClause S N m × CrsClause N m) S
      (λ m (laid, same) (c, d). (import_on m laid same S c, crs_on m laid same d)) g h
