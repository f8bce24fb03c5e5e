-- What `load` does after the record is read: the new module, number n, enters the list, is linked, serves the others and is fixed.
use Rattle.std.specs.Prelude.{ℕ, suc, ◌≤◌, ◌<◌, ◌≡◌, refl, ◌≢◌, List, [], ◌∷◌, ◌++◌, true, false, length, Some, None}
use Rattle.std.proofs.Common.{sym, ap, ◌∙◌, arith}
use Rattle.std.proofs.Math.Decide.{ℕ_discrete}
use Rattle.window.specs.Access.{Prog, ◌>>=◌}
use Rattle.register.specs.Module.{Module, Register}
use Rattle.register.specs.Change.{appended}
use Rattle.linker_spec.specs.declared.rebase.LoadArguments.{LoadArguments}
use Rattle.linker_spec.specs.Imports.{apply_import_named_symbols, apply_module_imports, apply_exports_to_loaded}
use Rattle.linker_spec.specs.Fix.{fix}
use Rattle.linker_spec.specs.Calls.{Answer, Done, listed, missing_now, linked}
use Rattle.history.specs.Below.{length_more}
use Rattle.history.specs.Image.{module_name}
use Rattle.history.specs.LoadedModule.{Image, size_of, is_crs, Area}
use Rattle.history.specs.Imports.{Import, Exports}
use Rattle.history.specs.Steps.Wp.{Memory, Does, SameOutside, does_mono, does_ret, does_then, does_wider}
use Rattle.history.specs.Steps.ModuleBytes.{shows_agree}
use Rattle.history.specs.Steps.Links.{Links, Stands}
use Rattle.history.specs.Steps.Changes.{Change}
use Rattle.history.specs.Steps.Asking.{true_false}
use Rattle.history.specs.Steps.Records.{Recorded, export_for}
use Rattle.history.specs.Steps.Runs.{Linking}
use Rattle.history.specs.Steps.Importing.{imports-named, imports_entries}
use Rattle.history.specs.Steps.Serving.{Served}
use Rattle.history.specs.Steps.AllModulesShow.{Modules, Sound, AllModulesShow, All, base, focus, again, put, put_same, put_other, modules_show_same}
use Rattle.history.specs.Steps.Listing.{ListWords, enters}
use Rattle.history.specs.Steps.LinksResolved.{LinksResolved, served}
use Rattle.history.specs.Steps.Own.{RecordedAll, own_resolved}
use Rattle.history.specs.Steps.Reaching.{serves_modules_show}
use Rattle.history.specs.Steps.Fixing.{fixed_at, fixes}

-- one record more
pub recorded_more : (x : ℕ → Image) (ms : List Module) (k : Module) → RecordedAll x ms → Recorded (x (length ms)) k → RecordedAll x (ms ++ (k ∷ []))
unfolding RecordedAll
recorded_more x [] k h g = (g, tt)
recorded_more x (m ∷ ms) k h g = (h.0, recorded_more (λ j. x (suc j)) ms k h.1 g)

-- the same cast with number n fixed at that level
abbrev pub fixed_modules : Modules → ℕ → ℕ → Modules
fixed_modules E n level =
    record { number = E.number; image = E.image; rest = put E.rest n (fixed_at (E.image n) level (E.rest n)) }

module _ (E : Modules) (sound : Sound E) where
  abbrev S : ℕ → Type 0
  S = All E sound

  abbrev b : ℕ → ℕ
  b = base E sound

  -- links of module k that change, whatever the program gives
  changes_links
      : {A : Type 0} {φ : ℕ → Links} {n v : ℕ → ℕ} {M : Memory} (k : ℕ) → k < E.number → (p : Prog A) {P : Links → Type 0} → AllModulesShow E φ n v M
      → Does (Area (E.image k)) p (λ _ N. (ψ : Links) × Stands (E.image k) (E.rest k) ψ (n k) (v k) N × P ψ) M
      → Does S p (λ _ N. (ψ : Links) × AllModulesShow E (put φ k ψ) n v N × P ψ) M
  changes_links {A} {φ} {n} {v} {M} k l p {P} w h =
      let ψ = h.gives.0 in
      does_mono S
      (focus E sound k l p {Q = λ _ _. P ψ} (λ _ _. ψ) (n k) (v k) w (record { lies = h.lies; gives = (h.gives.2, h.gives.1) }))
      (λ _ N g. (ψ, modules_show_same E sound (λ j. refl) (again E sound n k) (again E sound v k) g.1, g.0))

  -- module n is fixed
  fixes_modules_show
      : {φ : ℕ → Links} {x y : ℕ → ℕ} {M : Memory} (n : ℕ) → n < E.number → (level : ℕ) → level ≢ 2 → level ≢ 3 → AllModulesShow E φ x y M
      → Does S (fix (b n) (size_of (E.image n).load_call) level) (λ _ N. AllModulesShow (fixed_modules E n level) φ x y N) M
  fixes_modules_show {φ} {x} {y} {M} n l level c d w =
      does_mono S
      (does_wider (Area (E.image n)) S (λ q s. (n, l, s))
      (fixes (E.image n) (sound.laid n l) (sound.low n l) level c d (φ n) (x n) (y n) (w.stands n l)))
      (λ _ N g. record { stands = λ j i. at N g.0 g.1 j i (ℕ_discrete j n) })
    where
      T : Memory
      T = fixed_at (E.image n) level (E.rest n)

      at
          : (N : Memory) → Stands (E.image n) T (φ n) (x n) (y n) N → SameOutside (Area (E.image n)) M N → (j : ℕ) → j < E.number → Dec (j ≡ n)
          → Stands (E.image j) (put E.rest n T j) (φ j) (x j) (y j) N
      at N s t j i (yes e) = rw (e, put_same E.rest n T) s
      at N s t j i (no o) =
          rw (put_other E.rest n T j o)
          (record {
            shows = shows_agree (E.image j) (sound.laid j i) (λ q r. sym (t q (λ u. sound.apart j n q i l o r u))) (w.stands j i).shows;
          })

  -- the new module is number n and no CRS; only one of all exports to an import, and no two have one name
  module _ (nonzero : (k : ℕ) → k < E.number → b k ≢ 0) (n : ℕ) (few : E.number ≡ suc n) (some : 0 < n)
      (no-crs : is_crs (E.image n).load_call ≡ false)
      (once : (t : ℕ) → t < suc n → (i : Import) (j k p q : ℕ) → j < suc n → k < suc n → Exports (E.image j) (E.image t) i p
      → Exports (E.image k) (E.image t) i q → j ≡ k)
      (names : (j k : ℕ) → j < suc n → k < suc n → module_name (E.image j).file ≡ module_name (E.image k).file → j ≡ k)
      (r : Register) (recs : RecordedAll E.image r.modules) (many : length r.modules ≡ n) (crs : r.crs ≡ Some (b 0))
      (k : Module) (rec : Recorded (E.image n) k) where
    abbrev ms : List Module
    ms = r.modules ++ (k ∷ [])

    below : n < E.number
    below = omega arith

    all-recorded : RecordedAll E.image ms
    all-recorded = recorded_more E.image r.modules k recs (rw many rec)

    all_many : length ms ≡ suc n
    all_many = length_more r.modules k ∙ ap suc many

    -- all links are at rest
    abbrev AllResolved : (ℕ → Links) → Type 0
    AllResolved ψ = (j : ℕ) → j < suc n → LinksResolved (suc n) E.image (E.image j) (ψ j)

    enters_list
        : {φ : ℕ → Links} {x y : ℕ → ℕ} {M : Memory} → AllModulesShow E φ x y M → ListWords b n x y
        → Does S (listed r.crs (b n) true) (λ _ N. (u : ℕ → ℕ) × (v : ℕ → ℕ) × AllModulesShow E φ u v N × ListWords b (suc n) u v) M
    unfolding listed
    enters_list w h = rw crs (enters E sound nonzero n few some w h)

    -- its own imports
    module _ {φ : ℕ → Links} {x y : ℕ → ℕ} {M : Memory} (fresh : φ n ≡ λ _. None) (w : AllModulesShow E φ x y M) where
      imports_modules_show
          : {A : Type 0} (missing : List (List ℕ)) (f : List (List ℕ) → Prog A) {Q : A → Memory → Type 0}
          → ((ψ : Links) (xs : List (List ℕ)) (N : Memory) → LinksResolved (suc n) E.image (E.image n) ψ → AllModulesShow E (put φ n ψ) x y N → Does S (f xs) Q N)
          → Does S (apply_import_named_symbols ms (b n) missing >>= λ xs. apply_module_imports ms (b n) >>= λ _. f xs) Q M
      imports_modules_show missing f next =
          let m = E.image n in
          let laid = sound.laid n below in
          let low = sound.low n below in
          let view = sound.view n below in
          does_then S (apply_import_named_symbols ms (b n) missing) _
          (changes_links n below (apply_import_named_symbols ms (b n) missing) w
          (imports-named m laid low view (x n) (y n) ms missing (w.stands n below)))
          (λ xs N g.
          does_then S (apply_module_imports ms (b n)) _
          (changes_links n below (apply_module_imports ms (b n)) g.1
          (imports_entries m laid low view (x n) (y n) ms (g.1.stands n below)))
          (λ _ L t.
          next t.0 xs L
          (own_resolved m laid low view (x n) (y n) (suc n) E.image ms all-recorded all_many no-crs (once n (omega arith)) names
          (rw fresh at g.2) (rw (put_same φ n g.0) at t.2))
          (modules_show_same E sound (twice g.0 t.0) (λ j. refl) (λ j. refl) t.1)))
        where
          twice : (ψ χ : Links) (j : ℕ) → put (put φ n ψ) n χ j ≡ put φ n χ j
          twice ψ χ j =
              elim (ℕ_discrete j n) [
                | yes e ↦ rw e (put_same (put φ n ψ) n χ ∙ sym (put_same φ n χ))
                | no o ↦ put_other (put φ n ψ) n χ j o ∙ put_other φ n ψ j o ∙ sym (put_other φ n χ j o)
              ]

    -- the others get its exports
    serves_others
        : {φ : ℕ → Links} {x y : ℕ → ℕ} {M : Memory} (ψ : Links) → LinksResolved (suc n) E.image (E.image n) ψ
        → ((j : ℕ) → j < n → LinksResolved n E.image (E.image j) (φ j)) → AllModulesShow E (put φ n ψ) x y M
        → Does S (apply_exports_to_loaded k r.modules) (λ _ N. (χ : ℕ → Links) × AllModulesShow E χ x y N × AllResolved χ) M
    serves_others {φ} ψ own rest w =
        does_mono S (serves_modules_show E sound (E.image n) k rec n r.modules many (omega arith) recs w)
        (λ _ N t. (t.0, t.1, (λ j l. resolved t.0 t.2 t.3 j l (ℕ_discrete j n))))
      where
        resolved
            : (χ : ℕ → Links)
            → ((j : ℕ) → j < n
            → Change (Served (E.image n) (E.image j)) (Linking (E.image j).file (export_for (E.image n) (E.image j))) (put φ n ψ j) (χ j))
            → ((j : ℕ) → n ≤ j → χ j ≡ put φ n ψ j) → (j : ℕ) → j < suc n → Dec (j ≡ n) → LinksResolved (suc n) E.image (E.image j) (χ j)
        resolved χ f g j l (yes e) = rw (e, g n (omega arith), put_same φ n ψ) own
        resolved χ f g j l (no o) =
            served n E.image (E.image j) (sound.laid j (omega arith)) (once j l) (λ c d. true_false (sym d ∙ no-crs)) (rest j (omega arith))
            (rw (put_other φ n ψ j o) at (f j (omega arith)))

    -- all that follows the record; Q is asked of the call
    pub links_in
        : (l : LoadArguments) → l.base ≡ b n → l.size ≡ size_of (E.image n).load_call → (level : ℕ) → level ≢ 2 → level ≢ 3 → {Q : Answer → Memory → Type 0}
        → ((fixed : ℕ) (missing : List (List ℕ)) (N : Memory) (φ : ℕ → Links) (x y : ℕ → ℕ) → AllModulesShow (fixed_modules E n level) φ x y N
        → ListWords b (suc n) x y → AllResolved φ → Q (Done fixed (missing_now (appended r k) missing)) N)
        → {φ : ℕ → Links} {x y : ℕ → ℕ} {M : Memory} → φ n ≡ (λ _. None) → ((j : ℕ) → j < n → LinksResolved n E.image (E.image j) (φ j))
        → AllModulesShow E φ x y M → ListWords b n x y → Does S (linked r l true level k) Q M
    unfolding linked appended
    links_in l at size level c d {Q} end {φ} {x} {y} {M} fresh rest w h =
        rw (at, size)
        (does_then S (listed r.crs (b n) true) _ (enters_list w h)
        (λ _ N e.
        imports_modules_show fresh e.2 r.missing _
        (λ ψ xs L own u.
        does_then S (apply_exports_to_loaded k r.modules) _ (serves_others ψ own rest u)
        (λ _ K t.
        does_then S (fix (b n) (size_of (E.image n).load_call) level) _ (fixes_modules_show n below level c d t.1)
        (λ v J g. does_ret S (end v xs J t.0 e.0 e.1 g e.3 t.2))))))
