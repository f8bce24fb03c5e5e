-- A load changes no word of the list that its module does not enter: that list keeps its shape too.
use Rattle.std.specs.Prelude.{ℕ, ◌≡◌, Bool, not}
use Rattle.std.proofs.Common.{◌∙◌}
use mathlib.Core.List.{List, [], ◌∷◌}
use Rattle.std.proofs.Math.Bool.{true, false}
use Rattle.window.specs.Memory.{◌⊕◌, word_at, put_word}
use Rattle.window.specs.Access.{run}
use Rattle.layout.specs.Header.{next_cro, previous_cro}
use Rattle.linker_spec.specs.Lists.{head_field, register}
use Rattle.linker_spec.specs.Shape.{next, previous, last_of, Chained, Listed, Off, FieldsApart, AllFieldsApart, Headers, own, turned, off-turned, elsewhere, last_apart, first-listed, alone, later_listed, after_tail, unwritten}

-- the modules' list words are the same in both windows
unfoldable SameListWords : ℕ → List ℕ → List ℕ → List ℕ → Type 0
SameListWords at w v [] = Unit {0}
SameListWords at w v (n ∷ ns) = ((s : Bool) → word_at at v (n ⊕ head_field s) ≡ word_at at w (n ⊕ head_field s)) × SameListWords at w v ns

module _ (at : ℕ) (w v : List ℕ) where
  same_chain : (n : ℕ) (ns : List ℕ) → SameListWords at w v (n ∷ ns) → Chained (next at w) (previous at w) n ns → Chained (next at v) (previous at v) n ns
  unfolding SameListWords Chained
  same_chain n [] s c = s.0 true ∙ c
  same_chain n (k ∷ ns) s c = (s.0 true ∙ c.0, (s.1.0 false ∙ c.1.0, same_chain k ns s.1 c.1.1))

  same_list
      : (crs : ℕ) (auto : Bool) (ns : List ℕ) → word_at at v (crs ⊕ head_field auto) ≡ word_at at w (crs ⊕ head_field auto) → SameListWords at w v ns
      → Listed at w crs auto ns → Listed at v crs auto ns
  unfolding SameListWords Listed
  same_list crs auto [] h s l = h ∙ l
  same_list crs auto (n ∷ ns) h s l = (h ∙ l.0, (s.0 false ∙ l.1.0, same_chain n ns s l.1.1))

-- modules whose list words touch neither the CRS's nor those of the new module and its list
unfoldable pub OthersApart : ℕ → ℕ → List ℕ → List ℕ → Type 0
OthersApart crs base ms [] = Unit {0}
OthersApart crs base ms (n ∷ ns) = FieldsApart crs n × (FieldsApart base n × (AllFieldsApart n ms × OthersApart crs base ms ns))

-- the CRS's other word
heads : (crs : ℕ) (auto : Bool) → Off (crs ⊕ head_field auto) (crs ⊕ head_field (not auto))
heads crs true = own crs
heads crs false = off-turned (crs ⊕ next_cro) (crs ⊕ previous_cro) (own crs)

module _ (at : ℕ) (w : List ℕ) (crs base : ℕ) (auto : Bool) where
  alone_keeps
      : (y : ℕ) → Off (crs ⊕ head_field auto) y → Off (base ⊕ previous_cro) y → Off (base ⊕ next_cro) y
      → word_at at (alone at w crs base auto) y ≡ word_at at w y
  alone_keeps y o₁ o₂ o₃ =
      let w₁ = put_word at w (crs ⊕ head_field auto) base in
      let w₂ = put_word at w₁ (base ⊕ previous_cro) base in
      elsewhere at w₂ (base ⊕ next_cro) 0 y o₃
      ∙ elsewhere at w₁ (base ⊕ previous_cro) base y o₂
      ∙ elsewhere at w (crs ⊕ head_field auto) base y o₁

  alone-same : (ns : List ℕ) → OthersApart crs base [] ns → SameListWords at w (alone at w crs base auto) ns
  unfolding SameListWords OthersApart
  alone-same [] a = tt
  alone-same (n ∷ ns) a =
      (λ s. alone_keeps (n ⊕ head_field s) (a.0 auto s) (a.1.0 false s) (a.1.0 true s), alone-same ns a.1.1.1)

  tail_same : (m : ℕ) (ms ns : List ℕ) → OthersApart crs base (m ∷ ms) ns → SameListWords at w (after_tail at w crs base auto m (last_of m ms)) ns
  unfolding SameListWords OthersApart AllFieldsApart
  tail_same m ms [] a = tt
  tail_same m ms (n ∷ ns) a =
      let t = last_of m ms in
      let nt : FieldsApart t n = turned n t (last_apart n m ms a.1.1.0) in
      let nm : FieldsApart m n = turned n m a.1.1.0.0 in (
        λ s. unwritten at w crs base auto m t (n ⊕ head_field s) (nt true s) (a.1.0 false s) (nm false s) (a.1.0 true s),
        tail_same m ms ns a.1.1.1,
      )

  pub register-other
      : (ms ns : List ℕ) → Headers at w (crs ∷ base ∷ ms) → OthersApart crs base ms ns → Listed at w crs auto ms → Listed at w crs (not auto) ns
      → Listed at (run at (register crs base auto) w).1 crs (not auto) ns
  unfolding Listed Headers AllFieldsApart
  register-other [] ns h a l k =
      let bc : FieldsApart base crs = turned crs base h.1.0.0 in
      rw (first-listed at w crs base auto l)
      (same_list at w (alone at w crs base auto) crs (not auto) ns
      (alone_keeps (crs ⊕ head_field (not auto)) (heads crs auto) (bc false (not auto)) (bc true (not auto)))
      (alone-same ns a)
      k)
  register-other (m ∷ ms) ns h a l k =
      let t = last_of m ms in
      let bc : FieldsApart base crs = turned crs base h.1.0.0 in
      let mc : FieldsApart m crs = turned crs m h.1.0.1.0 in
      let tc : FieldsApart t crs = turned crs t (last_apart crs m ms h.1.0.1) in
      rw (later_listed at w crs base auto m t h.1.1.1.1.0.0 l.0 l.1.0)
      (same_list at w (after_tail at w crs base auto m t) crs (not auto) ns
      (unwritten at w crs base auto m t (crs ⊕ head_field (not auto)) (tc true (not auto)) (bc false (not auto)) (mc false (not auto))
      (bc true (not auto)))
      (tail_same m ms ns a)
      k)
