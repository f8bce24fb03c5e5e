-- How `load` and `initialize` begin, with the bytes that the new module's rest is made of: they depend on its areas before the call alone.
use Rattle.std.specs.Prelude.{ℕ, ◌<◌, ◌≡◌, refl, Bool}
use Rattle.std.proofs.Math.Path.{sym, ap}
use Rattle.std.proofs.Common.{◌∙◌, inl, inr}
use Rattle.window.specs.Access.{Prog, ◌>>=◌}
use Rattle.window.specs.Within.{Low, Agree}
use Rattle.window.specs.Mirror.{run_m}
use Rattle.register.specs.Module.{Module, Register}
use Rattle.linker_spec.specs.Refusal.{Rebased}
use Rattle.linker_spec.specs.Relocation.{reset_external_relocations}
use Rattle.linker_spec.specs.Calls.{Answer, add_record, Refused}
use Rattle.linker_spec.specs.declared.refusal.Refusal.TheVariants.{NotACro, BadSegment}
use Rattle.history.specs.LoadedModule.{Image, base_of, size_of, Area}
use Rattle.history.specs.WellLaid.{WellLaid}
use Rattle.history.specs.Steps.Wp.{Memory, Does, SameOutside, run_m_bind, does_ret, does_then, does_wider}
use Rattle.history.specs.Steps.Windowed.{same_on}
use Rattle.history.specs.Rebase.Rebased.{RebaseLeaves}
use Rattle.history.specs.Rebase.Standing.{reset_stands}
use Rattle.history.specs.Rebase.Arrives.{Arrived, recorded, Refuses}

-- the bytes after a rebase and the external reset
unfoldable pub brought : Prog Rebased → ℕ → Memory → Memory
brought step base B = (run_m (step >>= λ _. reset_external_relocations base) B).1

-- what a program does, with what it gives and leaves by name
pub does_runs
    : (S : ℕ → Type 0) {A : Type 0} {p : Prog A} {Q : A → Memory → Type 0} {M : Memory} → Does S p Q M
    → Does S p (λ a N. (N ≡ (run_m p M).1) × Q a N) M
does_runs S h = record { lies = h.lies; gives = (refl, h.gives) }

-- N is what the rebase and the reset made of B, whatever B is outside the areas
pub record Brought (m : Image) (step : Prog Rebased) (B N : Memory) : Type 0 where
  pub loaded_modules : Arrived m B N
  pub bytes : N ≡ brought step (base_of m.load_call) B
  pub alike : (D : Memory) → Agree (Area m) B D → Agree (Area m) N (brought step (base_of m.load_call) D)

-- S holds the module's areas; Q is asked of the call
module _ (S : ℕ → Type 0) (Q : Answer → Memory → Type 0) (m : Image) (laid : WellLaid m) (low : Low (Area m))
    (bytes : (o : ℕ) → o < size_of m.load_call → m.file o < 256) (i : (q : ℕ) → Area m q → S q) where
  abbrev at : ℕ
  at = base_of m.load_call

  pub brings
      : {B : Memory} (records names : ℕ) (r : Register) (auto : Bool) (next : Module → Prog Answer) (step : Prog Rebased)
      → Does (Area m) step (RebaseLeaves m) B → Refuses Q m B
      → ((N : Memory) → Brought m step B N → Does S (recorded records names r at (size_of m.load_call) auto next) Q N)
      → Does S (step >>= λ x. add_record records names r at (size_of m.load_call) auto next x) Q B
  unfolding add_record RebaseLeaves brought
  brings {B} records names r auto next step d refuses after =
      does_then S step _ (does_wider (Area m) S i (does_runs (Area m) d)) (λ x M h. go x M h.0.0 h.0.1 h.1)
    where
      go
          : (x : Rebased) (M : Memory) → M ≡ (run_m step B).1 → RebaseLeaves m x M → SameOutside (Area m) B M
          → Does S (add_record records names r at (size_of m.load_call) auto next x) Q M
      go x M e (inl z) k = rw z (does_ret S (refuses (Refused NotACro) M (inl refl) k))
      go x M e (inr (inl z)) k = rw z (does_ret S (refuses (Refused BadSegment) M (inr refl) k))
      go x M e (inr (inr h)) k =
          let reset = reset_stands m laid low bytes h.1 h.2 in
          let both : Does (Area m) (step >>= λ _. reset_external_relocations at) (λ _ _. Unit {0}) B =
          does_then (Area m) step (λ _. reset_external_relocations at) (does_runs (Area m) d)
          (λ _ L t. rw (t.0, ← e) (record { lies = reset.lies; gives = tt })) in
          rw h.0
          (does_then S (reset_external_relocations at) _ (does_wider (Area m) S i (does_runs (Area m) reset))
          (λ _ N g.
          let z : N ≡ brought step at B =
          g.0.0
          ∙ ap (λ L. (run_m (reset_external_relocations at) L).1) e
          ∙ sym (ap (λ p. p.1) (run_m_bind step (λ _. reset_external_relocations at) B)) in
          after N
          (record {
            loaded_modules =
                record { view = g.0.1.0; headed = g.0.1.1; stands = g.0.1.2; outside = λ q o. g.1 q o ∙ k q o };
            bytes = z;
            alike = λ D a. rw z (same_on (Area m) (step >>= λ _. reset_external_relocations at) B D both.lies a).1;
          })))
