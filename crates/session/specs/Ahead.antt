-- What the steps that are left print and leave, from a place of the buffer on.
use Rattle.std.specs.Prelude.{ℕ, suc, ◌+◌, ◌-◌, ◌≤◌, ◌<◌, ◌≡◌, List, Option}
use Rattle.std.proofs.Math.Path.{refl}
use Rattle.std.proofs.Common.{sym, ap, ◌∙◌, arith}
use Rattle.linker_spec.specs.declared.call.Call.{Call}
use Rattle.linker_spec.specs.Outcome.{Buffers}
use Rattle.linker_spec.specs.Valid.{Valid}
use Rattle.text.specs.Text.{put}
use Rattle.text.specs.Laws.{put-append}
use Rattle.session.specs.Head.{window_address}
use Rattle.session.specs.Steps.{step_at}
use Rattle.session.specs.Lines.{step_line}
use Rattle.session.specs.Run.{step_outcome}
use Rattle.session.specs.Session.{outcome_at, steps}

abbrev pub TextAndBuffers : Type 0
TextAndBuffers = (ℕ × List ℕ) × Buffers

unfoldable pub ahead : List ℕ → ℕ → ℕ → TextAndBuffers → TextAndBuffers
ahead file n k (p, b) = (put (steps file n k b).0 p, (steps file n k b).1)

-- what the step number k, at the window's address at, prints and leaves
abbrev pub ran_step : Option Call → ℕ → ℕ → TextAndBuffers → TextAndBuffers
ran_step step at k (p, b) =
    let o = step_outcome step at b in
    (put (step_line (k + 1) step o.number o.value) p, o.left)

-- the step has run, and a register stays one
abbrev pub StepRan : Option Call → ℕ → ℕ → TextAndBuffers → TextAndBuffers → Type 0
StepRan step at k before after = (after ≡ ran_step step at k before) × (Valid before.1 → Valid after.1)

-- all of them have run
abbrev pub AllRan : List ℕ → ℕ → TextAndBuffers → TextAndBuffers → Type 0
AllRan file n before after = (after ≡ ahead file n 0 before) × Valid after.1

module _ (file : List ℕ) (k : ℕ) where
  pub ahead_none : (p : TextAndBuffers) → ahead file 0 k p ≡ p
  unfolding ahead steps put
  ahead_none p = refl

  pub ahead_more : (n : ℕ) (p : TextAndBuffers) → ahead file n (k + 1) (ran_step (step_at file k) (window_address file) k p) ≡ ahead file (suc n) k p
  unfolding ahead steps outcome_at
  ahead_more n p = rw put-append

-- step k is next of n, and what is left of them gives what all of them give
abbrev pub StepsLeft : List ℕ → ℕ → ℕ → TextAndBuffers → TextAndBuffers → Type 0
StepsLeft file n k first p = (k ≤ n) × (ahead file (n - k) k p ≡ ahead file n 0 first) × Valid p.1

module _ (file : List ℕ) (n : ℕ) (first : TextAndBuffers) where
  pub rest_starts : Valid first.1 → StepsLeft file n 0 first first
  rest_starts v = let e : n - 0 ≡ n = omega arith in (omega arith, ap (λ m. ahead file m 0 first) e, v)

  pub rest-next
      : (k : ℕ) (p q : TextAndBuffers) → k < n → StepsLeft file n k first p → StepRan (step_at file k) (window_address file) k p q → StepsLeft file n (k + 1) first q
  rest-next k p q h r t =
      let m = n - (k + 1) in
      let e : suc m ≡ n - k = omega arith in
      (omega arith, ap (ahead file m (k + 1)) t.0 ∙ ahead_more file k m p ∙ ap (λ i. ahead file i k p) e ∙ r.1, t.1 r.2)

  pub rest_over : (k : ℕ) (p : TextAndBuffers) → n ≤ k → StepsLeft file n k first p → AllRan file n first p
  rest_over k p h r =
      let e : n - k ≡ 0 = omega arith in
      (sym (ahead_none file k p) ∙ sym (ap (λ i. ahead file i k p) e) ∙ r.1, r.2)
