-- From the code's calls and branches to the programs of `Lists`.
use Rattle.std.specs.Prelude.{if◌then◌else◌}
use Rattle.std.proofs.Common.{◌≡◌, ℕ, Bool, eqb, ap, ◌∙◌, eq-eqb, ne_eqb}
use Rattle.window.specs.Access.{Prog, ret, ◌>>=◌, ◌>>◌}
use Rattle.window.specs.Trace.{State, run_t}
use Rattle.window.specs.TraceRuns.{then_it, two, pick_then, pick_else}
use Rattle.layout.specs.Header.{next_cro, previous_cro}
use Rattle.layout.specs.Segments.{field, set_field}
use Rattle.linker_spec.specs.Lists.{head_field, becomes_head, becomes_tail, register, head_leaves, middle_leaves, new_tail, tail_leaves, other_leaves, leaves, unregister}

-- entering a list

pub head_made
    : (at : ℕ) (s : State) (crs x base : ℕ) {u v : State} → u ≡ (run_t at (set_field crs x base) s).1 → v ≡ (run_t at (set_field base previous_cro base) u).1
    → v ≡ (run_t at (becomes_head crs x base) s).1
unfolding becomes_head
head_made at s crs x base = two at (set_field crs x base) s (set_field base previous_cro base)

pub tail_made
    : (at head base : ℕ) (s : State) {tail : ℕ} {s₁ s₂ s₃ v : State} → (tail, s₁) ≡ run_t at (field head previous_cro) s
    → s₂ ≡ (run_t at (set_field tail next_cro base) s₁).1 → s₃ ≡ (run_t at (set_field base previous_cro tail) s₂).1
    → v ≡ (run_t at (set_field head previous_cro base) s₃).1 → v ≡ (run_t at (becomes_tail head base) s).1
unfolding becomes_tail
tail_made at head base s {tail} {s₁} {s₂} e h₁ h₂ h₃ =
    then_it at (field head previous_cro) s _ e
    (two at (set_field tail next_cro base) s₁ _ h₁ (two at (set_field base previous_cro tail) s₂ (set_field head previous_cro base) h₂ h₃))

module _ (at crs base : ℕ) (auto : Bool) (s : State) {x head : ℕ} {s₁ u v : State} (ex : x ≡ head_field auto)
    (eh : (head, s₁) ≡ run_t at (field crs x) s) (g : v ≡ (run_t at (set_field base next_cro 0) u).1) where
  registered : u ≡ (run_t at (if eqb head 0 then becomes_head crs x base else becomes_tail head base) s₁).1 → v ≡ (run_t at (register crs base auto) s).1
  unfolding register
  registered h =
      let after : ℕ → ℕ → Prog (Unit {0}) =
      λ x head. (if eqb head 0 then becomes_head crs x base else becomes_tail head base) >> set_field base next_cro 0 in
      then_it at (field crs x) s (after x) eh (two at _ s₁ (set_field base next_cro 0) h g) ∙ ap (λ x. (run_t at (field crs x >>= after x) s).1) ex

  pub registered_head : head ≡ 0 → u ≡ (run_t at (becomes_head crs x base) s₁).1 → v ≡ (run_t at (register crs base auto) s).1
  registered_head z h = registered (pick_then at s₁ head (becomes_head crs x base) (becomes_tail head base) z h)

  pub registered_tail : (head ≡ 0 → ⊥) → u ≡ (run_t at (becomes_tail head base) s₁).1 → v ≡ (run_t at (register crs base auto) s).1
  registered_tail n h = registered (pick_else at s₁ head (becomes_head crs x base) (becomes_tail head base) n h)

-- leaving it

module _ (at crs x next previous : ℕ) (s : State) {u v : State} (g : v ≡ (run_t at (set_field crs x next) u).1) where
  pub head-alone : next ≡ 0 → u ≡ s → v ≡ (run_t at (head_leaves crs x next previous) s).1
  unfolding head_leaves run_t
  head-alone z h =
      two at _ s (set_field crs x next) (pick_then at s next (ret tt) (set_field next previous_cro previous) z h) g

  pub head-left : (next ≡ 0 → ⊥) → u ≡ (run_t at (set_field next previous_cro previous) s).1 → v ≡ (run_t at (head_leaves crs x next previous) s).1
  unfolding head_leaves
  head-left n h =
      two at _ s (set_field crs x next) (pick_else at s next (ret tt) (set_field next previous_cro previous) n h) g

pub middle_left
    : (at next previous : ℕ) (s : State) {u v : State} → u ≡ (run_t at (set_field previous next_cro next) s).1
    → v ≡ (run_t at (set_field next previous_cro previous) u).1 → v ≡ (run_t at (middle_leaves next previous) s).1
unfolding middle_leaves
middle_left at next previous s = two at (set_field previous next_cro next) s (set_field next previous_cro previous)

module _ (at crs x base previous : ℕ) (s : State) {head : ℕ} {s₁ : State} (eh : (head, s₁) ≡ run_t at (field crs x) s) where
  pub tail_no_head : head ≡ 0 → s₁ ≡ (run_t at (new_tail crs x base previous) s).1
  unfolding new_tail run_t
  tail_no_head z = then_it at (field crs x) s _ eh (rw (eq-eqb head 0 z, run_t))

  module _ (n : head ≡ 0 → ⊥) {tail : ℕ} {s₂ : State} (et : (tail, s₂) ≡ run_t at (field head previous_cro) s₁) where
    tail_tested
        : {v : State} → v ≡ (run_t at (if eqb tail base then set_field head previous_cro previous else ret tt) s₂).1
        → v ≡ (run_t at (new_tail crs x base previous) s).1
    unfolding new_tail
    tail_tested h =
        then_it at (field crs x) s _ eh (pick_else at s₁ head (ret tt) _ n (then_it at (field head previous_cro) s₁ _ et h))

    pub tail_other : (tail ≡ base → ⊥) → s₂ ≡ (run_t at (new_tail crs x base previous) s).1
    unfolding run_t
    tail_other d = tail_tested (rw (ne_eqb tail base d, run_t))

    pub tail_new : {v : State} → tail ≡ base → v ≡ (run_t at (set_field head previous_cro previous) s₂).1 → v ≡ (run_t at (new_tail crs x base previous) s).1
    tail_new d h = tail_tested (pick_then at s₂ tail (set_field head previous_cro previous) (ret tt) d h)

pub tail_left
    : (at crs base previous : ℕ) (s : State) {s₁ s₂ v : State} → s₁ ≡ (run_t at (set_field previous next_cro 0) s).1
    → s₂ ≡ (run_t at (new_tail crs next_cro base previous) s₁).1 → v ≡ (run_t at (new_tail crs previous_cro base previous) s₂).1
    → v ≡ (run_t at (tail_leaves crs base previous) s).1
unfolding tail_leaves
tail_left at crs base previous s {s₁} a b c =
    two at (set_field previous next_cro 0) s _ a (two at (new_tail crs next_cro base previous) s₁ (new_tail crs previous_cro base previous) b c)

module _ (at crs base next previous : ℕ) (s : State) {v : State} where
  pub other_tail : next ≡ 0 → v ≡ (run_t at (tail_leaves crs base previous) s).1 → v ≡ (run_t at (other_leaves crs base next previous) s).1
  unfolding other_leaves
  other_tail = pick_then at s next (tail_leaves crs base previous) (middle_leaves next previous)

  pub other_middle : (next ≡ 0 → ⊥) → v ≡ (run_t at (middle_leaves next previous) s).1 → v ≡ (run_t at (other_leaves crs base next previous) s).1
  unfolding other_leaves
  other_middle = pick_else at s next (tail_leaves crs base previous) (middle_leaves next previous)

  module _ {first : ℕ} {s₁ : State} (ef : (first, s₁) ≡ run_t at (field crs next_cro) s) where
    pub leaves-first : first ≡ base → v ≡ (run_t at (head_leaves crs next_cro next previous) s₁).1 → v ≡ (run_t at (leaves crs base next previous) s).1
    unfolding leaves
    leaves-first e h = then_it at (field crs next_cro) s _ ef (pick_then at s₁ first (head_leaves crs next_cro next previous) _ e h)

    module _ (n : first ≡ base → ⊥) {second : ℕ} {s₂ : State} (es : (second, s₂) ≡ run_t at (field crs previous_cro) s₁) where
      leaves-tested
          : v ≡ (run_t at (if eqb second base then head_leaves crs previous_cro next previous else other_leaves crs base next previous) s₂).1
          → v ≡ (run_t at (leaves crs base next previous) s).1
      unfolding leaves
      leaves-tested h =
          then_it at (field crs next_cro) s _ ef
          (pick_else at s₁ first (head_leaves crs next_cro next previous) _ n (then_it at (field crs previous_cro) s₁ _ es h))

      pub leaves_second
          : second ≡ base → v ≡ (run_t at (head_leaves crs previous_cro next previous) s₂).1 → v ≡ (run_t at (leaves crs base next previous) s).1
      leaves_second e h =
          leaves-tested (pick_then at s₂ second (head_leaves crs previous_cro next previous) (other_leaves crs base next previous) e h)

      pub Leaves-none
          : (second ≡ base → ⊥) → v ≡ (run_t at (other_leaves crs base next previous) s₂).1 → v ≡ (run_t at (leaves crs base next previous) s).1
      Leaves-none d h =
          leaves-tested (pick_else at s₂ second (head_leaves crs previous_cro next previous) (other_leaves crs base next previous) d h)

module _ (at crs base : ℕ) (s : State) {next previous : ℕ} {s₁ s₂ : State} (en : (next, s₁) ≡ run_t at (field base next_cro) s)
    (ep : (previous, s₂) ≡ run_t at (field base previous_cro) s₁) where
  unregister-tested
      : {v : State}
      → v ≡ (run_t at (if eqb previous 0 then ret tt
      else (leaves crs base next previous >> (set_field base next_cro 0 >> set_field base previous_cro 0))) s₂).1
      → v ≡ (run_t at (unregister crs base) s).1
  unfolding unregister
  unregister-tested h = then_it at (field base next_cro) s _ en (then_it at (field base previous_cro) s₁ _ ep h)

  pub in_no_list : previous ≡ 0 → s₂ ≡ (run_t at (unregister crs base) s).1
  unfolding run_t
  in_no_list z = unregister-tested (rw (eq-eqb previous 0 z, run_t))

  pub unregistered
      : (previous ≡ 0 → ⊥) → {w₁ w₂ v : State} → w₁ ≡ (run_t at (leaves crs base next previous) s₂).1
      → w₂ ≡ (run_t at (set_field base next_cro 0) w₁).1 → v ≡ (run_t at (set_field base previous_cro 0) w₂).1
      → v ≡ (run_t at (unregister crs base) s).1
  unregistered n {w₁} a b c =
      unregister-tested (pick_else at s₂ previous (ret tt) _ n
      (two at (leaves crs base next previous) s₂ _ a (two at (set_field base next_cro 0) w₁ (set_field base previous_cro 0) b c)))
