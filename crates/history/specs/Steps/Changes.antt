-- Changes of links: at the entries in P each link becomes what R says, all others stay; loops whose turns change different entries.
use Rattle.std.specs.Prelude.{ℕ, suc, ◌+◌, ◌<◌, ◌≡◌, refl, ◌≢◌, ◌⊎◌, Option}
use Rattle.std.proofs.Common.{◌∙◌, inl, inr, arith}
use Rattle.std.proofs.Math.Decide.{ℕ_discrete}
use Rattle.window.specs.Access.{Prog}
use Rattle.window.specs.Loop.{loop}
use Rattle.history.specs.LoadedModule.{Image}
use Rattle.history.specs.Steps.Wp.{Memory, Does, does_mono, does_loop}
use Rattle.history.specs.Steps.Links.{Links, Stands}

pub record Change (P : ℕ → Type 0) (R : ℕ → Option ℕ → Option ℕ → Type 0) (φ ψ : Links) : Type 0 where
  pub changed : (e : ℕ) → P e → R e (φ e) (ψ e)
  pub same : (e : ℕ) → (P e → ⊥) → ψ e ≡ φ e

-- no change at all, where P holds of no entry
pub change_none : {P : ℕ → Type 0} {R : ℕ → Option ℕ → Option ℕ → Type 0} {φ : Links} → ((e : ℕ) → P e → ⊥) → Change P R φ φ
change_none n = record { changed = λ e h. absurd (n e h); same = λ e h. refl }

-- one change after another, at other entries
pub change-then
    : {P Q : ℕ → Type 0} {R : ℕ → Option ℕ → Option ℕ → Type 0} {φ ψ χ : Links} → ((e : ℕ) → P e → Q e → ⊥) → Change P R φ ψ
    → Change Q R ψ χ → Change (λ e. P e ⊎ Q e) R φ χ
change-then {P} {Q} {R} {φ} {ψ} {χ} d c k = record { changed = at; same = off }
  where
    at : (e : ℕ) → P e ⊎ Q e → R e (φ e) (χ e)
    at e (inl h) = rw (k.same e (λ g. d e h g)) (c.changed e h)
    at e (inr h) = rw (c.same e (λ g. d e g h)) at (k.changed e h)

    off : (e : ℕ) → (P e ⊎ Q e → ⊥) → χ e ≡ φ e
    off e n = k.same e (λ h. n (inr h)) ∙ c.same e (λ h. n (inl h))

-- the same entries, said otherwise
pub change_iff
    : {P Q : ℕ → Type 0} {R : ℕ → Option ℕ → Option ℕ → Type 0} {φ ψ : Links} → ((e : ℕ) → P e → Q e) → ((e : ℕ) → Q e → P e) → Change P R φ ψ
    → Change Q R φ ψ
change_iff f g c = record { changed = λ e h. c.changed e (g e h); same = λ e n. c.same e (λ h. n (f e h)) }

module _ (m : Image) (T : Memory) (n v : ℕ) (S : ℕ → Type 0) (R : ℕ → Option ℕ → Option ℕ → Type 0) where
  -- the module stands, with links changed at P
  abbrev pub Changed : (ℕ → Type 0) → Links → Memory → Type 0
  Changed P φ N = (ψ : Links) × Stands m T ψ n v N × Change P R φ ψ

  -- a loop whose turn k changes the entries in P k
  pub changes_loop
      : {A : Type 0} (body : ℕ → A → Prog A) (P : ℕ → ℕ → Type 0) (k : ℕ) (a : A) {φ : Links} {M : Memory}
      → ((i j e : ℕ) → i < k → j < k → i ≢ j → P i e → P j e → ⊥)
      → ((i : ℕ) (b : A) (ψ : Links) (N : Memory) → i < k → Stands m T ψ n v N → Does S (body i b) (λ _ L. Changed (P i) ψ L) N)
      → Stands m T φ n v M → Does S (loop body 0 k a) (λ _ N. Changed (λ e. (i : ℕ) × (i < k) × P i e) φ N) M
  changes_loop body P k a {φ} {M} d step s =
      does_mono S
      (does_loop S body (λ i _ N. Changed (λ e. (j : ℕ) × (j < i) × P j e) φ N) 0 k a M
      (λ i b N l g h.
      let q : i < k = omega arith in does_mono S (step i b h.0 N q h.1) (λ _ L t. (t.0, t.1, more i q h.2 t.2)))
      (φ, s, change_none (λ e h. omega (arith, h.1))))
      (λ _ N h. let z : 0 + k ≡ k = omega arith in rw z at h)
    where
      more : (i : ℕ) → i < k → {ψ χ : Links} → Change (λ e. (j : ℕ) × (j < i) × P j e) R φ ψ → Change (P i) R ψ χ
          → Change (λ e. (j : ℕ) × (j < suc i) × P j e) R φ χ
      more i l c t =
          change_iff (λ e h. into e h) (λ e h. out e h (ℕ_discrete h.0 i))
          (change-then (λ e h g. d h.0 i e (omega (arith, h.1)) l (λ z. omega (arith, z, h.1)) h.2 g) c t)
        where
          into : (e : ℕ) → ((j : ℕ) × (j < i) × P j e) ⊎ P i e → (j : ℕ) × (j < suc i) × P j e
          into e (inl h) = (h.0, omega (arith, h.1), h.2)
          into e (inr h) = (i, omega arith, h)

          out : (e : ℕ) (h : (j : ℕ) × (j < suc i) × P j e) → Dec (h.0 ≡ i) → ((j : ℕ) × (j < i) × P j e) ⊎ P i e
          out e (j, l, h) (yes z) = inr (rw z at h)
          out e (j, l, h) (no z) = inl (j, omega arith, h)
