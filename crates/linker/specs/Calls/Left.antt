-- A module that leaves: where its record stands, and what taking it out leaves of the window.
use Rattle.std.specs.Prelude.{if◌then◌else◌, ◌≡◌, ℕ, suc, ◌+◌, ◌*◌, ◌<◌, Bool, true, false, List, [], ◌∷◌, length, take, ◌==◌, refl, Option, Some, None}
use Rattle.std.proofs.Math.Path.{sym, ap}
use Rattle.std.proofs.Common.{◌∙◌, arith}
use Rattle.window.specs.Access.{ret}
use Rattle.window.specs.Trace.{State, run_t}
use Rattle.window.specs.TraceRuns.{seq}
use Rattle.register.specs.Module.{Module, Register}
use Rattle.register.specs.Encode.{record_words}
use Rattle.register.specs.Decode.{register_of, is_register}
use Rattle.register.specs.Change.{without, removed}
use Rattle.register.specs.Read.Read.{modules_of, module_bytes, module_at, place_from, place_after, has_base}
use Rattle.register.specs.Change.Remove.{RecordOfRegister}
use Rattle.linker_spec.specs.Resets.{reset_importers}
use Rattle.linker_spec.specs.Lists.{unregister}
use Rattle.linker_spec.specs.Unrebase.{unrebase}
use Rattle.linker_spec.specs.Calls.{Answer, Done, unknown, stands, first_with_base, unlisted, leave}
use Rattle.linker.specs.Imports.Modules.{modules_are}
use Rattle.linker.specs.Resets.Modules.{other_than, gone_is}
use Rattle.linker.specs.Calls.Stored.{after-words, crs_is}
use Rattle.linker.specs.Calls.Linked.{header_crs}

pub unlisted_none : (at base : ℕ) (s : State) {c : Option ℕ} → c ≡ None → s ≡ (run_t at (unlisted c base) s).1
unfolding unlisted run_t
unlisted_none at base s e = rw e

pub unlisted_known
    : (at base : ℕ) (s : State) {c : Option ℕ} (crs : ℕ) {u : State} → c ≡ Some crs → u ≡ (run_t at (unregister crs base) s).1
    → u ≡ (run_t at (unlisted c base) s).1
unfolding unlisted
unlisted_known at base s crs e h = rw e h

-- a base that no record has
pub no_first : (base p i : ℕ) (ms : List Module) → place_from p ms (has_base base) ≡ None → first_with_base base ms i ≡ unknown
unfolding place_from has_base first_with_base
no_first base p i [] e = refl
no_first base p i (x ∷ ms) e = go (x.base == base) e (no_first base (p + module_bytes x) (suc i) ms)
  where
    go
        : (t : Bool) → (if t then Some p else place_from (p + module_bytes x) ms (has_base base)) ≡ None
        → (place_from (p + module_bytes x) ms (has_base base) ≡ None → first_with_base base ms (suc i) ≡ unknown)
        → (if t then stands x i else first_with_base base ms (suc i)) ≡ unknown
    go true e k = let z : ◌≡◌ {A = ℕ} 0 1 = cc in absurd (omega arith)
    go false e k = k e

-- the place of the first record that has it
record FirstAt (base p i : ℕ) (ms : List Module) (k : ℕ) : Type 0 where
  number : ℕ
  counts : k ≡ i + number
  below : number < length ms
  there : place_from p ms (has_base base) ≡ Some (place_after p (take number ms))

first-at : (base p i : ℕ) (ms : List Module) (k : ℕ) (m : Module) → first_with_base base ms i ≡ stands m k → FirstAt base p i ms k
unfolding place_from has_base first_with_base place_after
first-at base p i [] k m e = let z : ◌≡◌ {A = ℕ} 0 1 = cc in absurd (omega arith)
first-at base p i (x ∷ ms) k m e = go (x.base == base) refl e (first-at base (p + module_bytes x) (suc i) ms k m)
  where
    go
        : (t : Bool) → (x.base == base) ≡ t → (if t then stands x i else first_with_base base ms (suc i)) ≡ stands m k
        → (first_with_base base ms (suc i) ≡ stands m k → FirstAt base (p + module_bytes x) (suc i) ms k) → FirstAt base p i (x ∷ ms) k
    go true q e h = let z : i ≡ k = cc in record { number = 0; counts = omega arith; below = omega arith; there = rw q }
    go false q e h =
        let a = h e in
        record { number = suc a.number; counts = omega (arith, a.counts); below = omega (arith, a.below); there = rw q a.there }

module _ (records names missing : List ℕ) (v : is_register records names missing ≡ true) (base place : ℕ)
    (f : Some place ≡ place_from 32 (modules_of records names) (has_base base)) where
  abbrev r : Register
  r = register_of records names missing

  abbrev pub gone
      : (k : ℕ)
      × ((first_with_base base (modules_of records names) 0 ≡ stands (module_at records names place) k)
      × (other_than place 32 (modules_of records names) ≡ without (modules_of records names) k))
  gone = gone_is records names base (missing, v) (sym f)

  -- its number
  abbrev pub number : ℕ
  number = gone.0

  pub at_place : (number < length r.modules) × (place ≡ 32 + 4 * length (record_words 0 (take number r.modules)))
  at_place =
      let a = first-at base 32 0 (modules_of records names) number (module_at records names place) gone.1.0 in
      let n : a.number ≡ number = omega (arith, a.counts) in
      let l = a.below in
      let t : ◌≡◌ {A = _} (Some place) (Some (place_after 32 (take a.number (modules_of records names)))) = f ∙ a.there in
      let p : place ≡ place_after 32 (take a.number (modules_of records names)) = cc in
      rw (modules_are records names missing, sym n)
      (l, p ∙ after-words 0 32 (take a.number (modules_of records names)))

  abbrev pub standing : RecordOfRegister records names place
  standing = record { missing = missing; number = number; holds = v; below = at_place.0; there = at_place.1 }

  pub left_is
      : (at : ℕ) (s : State) {s₁ s₂ s₃ : State}
      → s₁ ≡ (run_t at (reset_importers (module_at records names place) (other_than place 32 (modules_of records names))) s).1
      → s₂ ≡ (run_t at (unlisted (header_crs records) base) s₁).1 → s₃ ≡ (run_t at (unrebase base) s₂).1
      → ◌≡◌ {A = Answer × State} (run_t at (leave r base (first_with_base base r.modules 0)) s) (Done 1 (removed r number), s₃)
  unfolding leave run_t
  left_is at s {s₁} {s₂} {s₃} e₁ e₂ e₃ =
      let g : first_with_base base r.modules 0 ≡ stands (module_at records names place) number = rw (modules_are records names missing) gone.1.0 in
      let h : other_than place 32 (modules_of records names) ≡ without r.modules number = rw (modules_are records names missing) gone.1.1 in
      let h₁ : s₁ ≡ (run_t at (reset_importers (module_at records names place) (without r.modules number)) s).1 =
      e₁ ∙ ap (λ t. (run_t at (reset_importers (module_at records names place) t) s).1) h in
      let h₂ : s₂ ≡ (run_t at (unlisted r.crs base) s₁).1 =
      e₂ ∙ ap (λ c. (run_t at (unlisted c base) s₁).1) (sym (crs_is records names missing)) in
      ap (λ t. run_t at (leave r base t) s) g
      ∙ sym (seq at (unrebase base) s₂ (ret (Done 1 (removed r number))) e₃
      ∙ seq at (unlisted r.crs base) s₁ _ h₂
      ∙ seq at (reset_importers (module_at records names place) (without r.modules number)) s _ h₁)
