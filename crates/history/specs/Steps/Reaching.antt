-- What is done to standing modules one after another: a new one's exports reach them, or one that leaves is taken from their links.
use Prim.Native.Nat.{ℕ, zero, suc, pred, ◌≤◌, ◌<◌}
use Rattle.std.specs.Prelude.{if◌then◌else◌, ◌≡◌, ◌≢◌, None}
use Rattle.std.proofs.Math.Path.{refl}
use Rattle.std.proofs.Common.{sym, ◌∙◌, arith}
use mathlib.Core.List.{List, [], ◌∷◌}
use Rattle.std.proofs.Math.Decide.{dec_lt}
use Rattle.std.proofs.Math.ListN.{length}
use Rattle.window.specs.Access.{Prog, ret, ◌>>=◌}
use Rattle.register.specs.Module.{Module}
use Rattle.linker_spec.specs.Imports.{serve, apply_exports_to_loaded}
use Rattle.linker_spec.specs.Resets.{reset_imports, reset_importers}
use Rattle.history.specs.LoadedModule.{Image, Area}
use Rattle.history.specs.Steps.Wp.{Memory, Does, does_mono, does_ret, does_then}
use Rattle.history.specs.Steps.Links.{Links, Stands}
use Rattle.history.specs.Steps.Changes.{Change}
use Rattle.history.specs.Steps.Records.{Recorded, export_for}
use Rattle.history.specs.Steps.Runs.{Linking}
use Rattle.history.specs.Steps.Serving.{Served, serves}
use Rattle.history.specs.Steps.Resetting.{Dropped, resets_all}
use Rattle.history.specs.Steps.AllModulesShow.{Modules, Sound, AllModulesShow, All, focus, again, put, put_same, put_other, modules_show_same}
use Rattle.history.specs.Steps.Leaving.{skip, skip-low, skip-not, skip_below, skip-back, skip-other}
use Rattle.history.specs.Steps.Own.{RecordedAll}

module _ (C : Modules) (sound : Sound C) where
  abbrev S : ℕ → Type 0
  S = All C sound

  -- links of module k that change, whatever they become
  changes_one
      : {φ : ℕ → Links} {n v : ℕ → ℕ} {M : Memory} (k : ℕ) → k < C.number → (m : Prog (Unit {0})) {P : Links → Type 0} → AllModulesShow C φ n v M
      → Does (Area (C.image k)) m (λ _ N. (ψ : Links) × Stands (C.image k) (C.rest k) ψ (n k) (v k) N × P ψ) M
      → Does S m (λ _ N. (ψ : Links) × AllModulesShow C (put φ k ψ) n v N × P ψ) M
  changes_one {φ} {n} {v} {M} k l m {P} w h =
      let ψ = h.gives.0 in
      does_mono S
      (focus C sound k l m {Q = λ _ _. P ψ} (λ _ _. ψ) (n k) (v k) w (record { lies = h.lies; gives = (h.gives.2, h.gives.1) }))
      (λ _ N g. (ψ, modules_show_same C sound (λ j. refl) (again C sound n k) (again C sound v k) g.1, g.0))

  -- a program that does the same to each of a list of modules, P saying what it does to the links of number k
  module _ (program : List Module → Prog (Unit {0})) (body : Module → Prog (Unit {0})) (P : ℕ → Links → Links → Type 0)
      (nil : program [] ≡ ret tt) (cons : (r : Module) (rs : List Module) → program (r ∷ rs) ≡ (body r >>= λ _. program rs))
      (each : (k : ℕ) → k < C.number → (r : Module) → Recorded (C.image k) r → (φ : Links) (n v : ℕ) (M : Memory)
      → Stands (C.image k) (C.rest k) φ n v M
      → Does (Area (C.image k)) (body r) (λ _ N. (ψ : Links) × Stands (C.image k) (C.rest k) ψ n v N × P k φ ψ) M) where
    -- the records are those of the modules s 0, s 1 and so on, all different
    pub in_turn
        : (s : ℕ → ℕ) (rs : List Module) → ((k : ℕ) → k < length rs → s k < C.number)
        → ((j k : ℕ) → j < length rs → k < length rs → s j ≡ s k → j ≡ k) → RecordedAll (λ k. C.image (s k)) rs
        → {φ : ℕ → Links} {n v : ℕ → ℕ} {M : Memory} → AllModulesShow C φ n v M
        → Does S (program rs)
        (λ _ N.
        (ψ : ℕ → Links) × AllModulesShow C ψ n v N × ((k : ℕ) → k < length rs → P (s k) (φ (s k)) (ψ (s k)))
        × ((j : ℕ) → ((k : ℕ) → k < length rs → s k ≢ j) → ψ j ≡ φ j))
        M
    unfolding RecordedAll
    in_turn s [] low other h {φ} w = rw nil (does_ret S (φ, w, (λ k l. absurd (omega arith)), (λ j o. refl)))
    in_turn s (r ∷ rs) low other h {φ} {n} {v} {M} w =
        rw (cons r rs)
        (does_then S (body r) (λ _. program rs)
        (changes_one (s 0) (low 0 (omega arith)) (body r) {P = P (s 0) (φ (s 0))} w
        (each (s 0) (low 0 (omega arith)) r h.0 (φ (s 0)) (n (s 0)) (v (s 0)) M (w.stands (s 0) (low 0 (omega arith)))))
        (λ _ N g.
        does_mono S
        (in_turn (λ k. s (suc k)) rs (λ k l. low (suc k) (omega arith))
        (λ j k l q e. let z : suc j ≡ suc k = other (suc j) (suc k) (omega arith) (omega arith) e in omega (arith, z)) h.1 g.1)
        (λ _ L t. (t.0, t.1, (λ k l. changed g.0 t.0 g.2 t.2 t.3 k l), (λ j o. kept g.0 t.0 t.3 j o)))))
      where
        changed
            : (χ : Links) (ψ : ℕ → Links) → P (s 0) (φ (s 0)) χ
            → ((k : ℕ) → k < length rs → P (s (suc k)) (put φ (s 0) χ (s (suc k))) (ψ (s (suc k))))
            → ((j : ℕ) → ((k : ℕ) → k < length rs → s (suc k) ≢ j) → ψ j ≡ put φ (s 0) χ j) → (k : ℕ) → k < length (r ∷ rs)
            → P (s k) (φ (s k)) (ψ (s k))
        changed χ ψ p f g zero l =
            let z : ψ (s 0) ≡ χ =
            g (s 0) (λ k q e. absurd (omega (arith, other (suc k) 0 (omega arith) (omega arith) e))) ∙ put_same φ (s 0) χ in
            rw z p
        changed χ ψ p f g (suc k) l =
            let z : put φ (s 0) χ (s (suc k)) ≡ φ (s (suc k)) =
            put_other φ (s 0) χ (s (suc k)) (λ e. absurd (omega (arith, other (suc k) 0 (omega arith) (omega arith) e))) in
            rw z at (f k (omega arith))

        kept
            : (χ : Links) (ψ : ℕ → Links) → ((j : ℕ) → ((k : ℕ) → k < length rs → s (suc k) ≢ j) → ψ j ≡ put φ (s 0) χ j) → (j : ℕ)
            → ((k : ℕ) → k < length (r ∷ rs) → s k ≢ j) → ψ j ≡ φ j
        kept χ ψ g j o = g j (λ k l. o (suc k) (omega arith)) ∙ put_other φ (s 0) χ j (λ e. o 0 (omega arith) (sym e))

  -- the exports of x reach the first k modules
  pub serves_modules_show
      : (x : Image) (r : Module) → Recorded x r → (k : ℕ) (rs : List Module) → length rs ≡ k → k ≤ C.number → RecordedAll C.image rs
      → {φ : ℕ → Links} {n v : ℕ → ℕ} {M : Memory} → AllModulesShow C φ n v M
      → Does S (apply_exports_to_loaded r rs)
      (λ _ N.
      (ψ : ℕ → Links) × AllModulesShow C ψ n v N
      × ((j : ℕ) → j < k → Change (Served x (C.image j)) (Linking (C.image j).file (export_for x (C.image j))) (φ j) (ψ j))
      × ((j : ℕ) → k ≤ j → ψ j ≡ φ j))
      M
  unfolding apply_exports_to_loaded
  serves_modules_show x r rec k rs few all h w =
      does_mono S
      (in_turn (apply_exports_to_loaded r) (λ t. serve r t.base)
      (λ j. Change (Served x (C.image j)) (Linking (C.image j).file (export_for x (C.image j)))) nil cons each (λ j. j) rs (λ j l. omega arith)
      (λ i j l g e. e) h w)
      (λ _ N t. (t.0, t.1, (λ j l. t.2 j (omega arith)), (λ j l. t.3 j (λ i g e. omega arith))))
    where
      nil : apply_exports_to_loaded r [] ≡ ret tt
      nil = refl

      cons : (t : Module) (rs : List Module) → apply_exports_to_loaded r (t ∷ rs) ≡ (serve r t.base >>= λ _. apply_exports_to_loaded r rs)
      cons t rs = refl

      each : (k : ℕ) → k < C.number → (t : Module) → Recorded (C.image k) t → (φ : Links) (n v : ℕ) (M : Memory)
          → Stands (C.image k) (C.rest k) φ n v M
          → Does (Area (C.image k)) (serve r t.base)
          (λ _ N.
          (ψ : Links) × Stands (C.image k) (C.rest k) ψ n v N
          × Change (Served x (C.image k)) (Linking (C.image k).file (export_for x (C.image k))) φ ψ)
          M
      each k l t h φ n v M s = rw h.base (serves (C.image k) (sound.laid k l) (sound.low k l) (sound.view k l) n v x r rec s)

  -- x, number d, leaves: the others' links to it go
  pub resets_modules_show
      : (x : Image) (r : Module) → Recorded x r → (d : ℕ) (rs : List Module) → d < C.number → length rs ≡ pred C.number
      → RecordedAll (λ k. C.image (skip d k)) rs → {φ : ℕ → Links} {n v : ℕ → ℕ} {M : Memory} → AllModulesShow C φ n v M
      → Does S (reset_importers r rs)
      (λ _ N.
      (ψ : ℕ → Links) × AllModulesShow C ψ n v N
      × ((j : ℕ) → j < C.number → j ≢ d → Change (Dropped x (C.image j)) (λ e y z. z ≡ None) (φ j) (ψ j)) × (ψ d ≡ φ d))
      M
  unfolding reset_importers
  resets_modules_show x r rec d rs below few h {φ} w =
      does_mono S
      (in_turn (reset_importers r) (λ t. if t.auto then reset_imports r t.base else ret tt)
      (λ j. Change (Dropped x (C.image j)) (λ e y z. z ≡ None)) nil cons each (skip d) rs
      (λ k l. skip_below C.number d k below (omega arith)) (λ j k l g e. skip-other d j k e) h w)
      (λ _ N t. (t.0, t.1, (λ j l o. at t.0 t.2 j l o (dec_lt j d)), t.3 d (λ k l. skip-not d k)))
    where
      nil : reset_importers r [] ≡ ret tt
      nil = refl

      cons
          : (t : Module) (rs : List Module)
          → reset_importers r (t ∷ rs) ≡ ((if t.auto then reset_imports r t.base else ret tt) >>= λ _. reset_importers r rs)
      cons t rs = refl

      each : (k : ℕ) → k < C.number → (t : Module) → Recorded (C.image k) t → (φ : Links) (n v : ℕ) (M : Memory)
          → Stands (C.image k) (C.rest k) φ n v M
          → Does (Area (C.image k)) (if t.auto then reset_imports r t.base else ret tt)
          (λ _ N.
          (ψ : Links) × Stands (C.image k) (C.rest k) ψ n v N × Change (Dropped x (C.image k)) (λ e y z. z ≡ None) φ ψ)
          M
      each k l t h φ n v M s =
          rw (h.auto, h.base) (resets_all (C.image k) (sound.laid k l) (sound.low k l) (sound.view k l) n v x r rec s)

      at
          : (ψ : ℕ → Links)
          → ((k : ℕ) → k < length rs → Change (Dropped x (C.image (skip d k))) (λ e y z. z ≡ None) (φ (skip d k)) (ψ (skip d k))) → (j : ℕ)
          → j < C.number → j ≢ d → Dec (j < d) → Change (Dropped x (C.image j)) (λ e y z. z ≡ None) (φ j) (ψ j)
      at ψ f j l o (yes g) = rw (skip-low d j g) at (f j (omega arith))
      at ψ f j l o (no g) = rw (skip-back d j (omega arith)) at (f (pred j) (omega arith))
