-- The register's records against the modules that stand, found by base.
use Rattle.std.specs.Prelude.{ℕ, ◌+◌, ◌<◌, ◌≡◌, refl, ◌≢◌, List, [], ◌∷◌, ◌++◌, false, length, get_or}
use Rattle.std.proofs.Common.{sym, ap, ◌∙◌, arith}
use Rattle.register.specs.Module.{Module, Register}
use Rattle.linker_spec.specs.Calls.{unknown, stands, first_with_base}
use Rattle.history.specs.LoadedModule.{LoadedModule, base_of, is_crs}
use Rattle.history.specs.Sessions.{others}
use Rattle.history.specs.Below.{Pairs}
use Rattle.history.specs.Steps.Records.{Recorded}
use Rattle.history.specs.Steps.Own.{RecordedAll}
use Rattle.history.specs.Steps.ByBase.{finds, finds_none}
use Rattle.history.specs.Sessions.Lists.{each_at, pairs-at, lacking, OtherBase, Leaver, leaves, stays}
use Rattle.history.specs.Sessions.Unique.{no_module, image_at}

-- the records are those of a list of arrivals
pub record Registered (S : List LoadedModule) (r : Register) : Type 0 where
  pub recorded : RecordedAll (image_at S) r.modules
  pub number : length r.modules ≡ length S

-- what an unload of a base finds
pub data UnloadFinds (base : ℕ) (S : List LoadedModule) (ms : List Module) : Type 0 where
  goes
      : (d : ℕ) (r : Module) → d < length S → base_of (image_at S d).load_call ≡ base → is_crs (image_at S d).load_call ≡ false
      → others base S ≡ lacking S d → first_with_base base ms 0 ≡ stands r d → Recorded (image_at S d) r → UnloadFinds base S ms
  none : others base S ≡ S → first_with_base base ms 0 ≡ unknown → UnloadFinds base S ms

pub found
    : (base : ℕ) (S : List LoadedModule) (r : Register) → Pairs OtherBase S → Registered S r → Leaver base S → UnloadFinds base S r.modules
found base S r o h (leaves d l e c q) =
    let g =
    finds (image_at S) r.modules d 0 base (omega (arith, h.number)) (e no_module)
    (λ j z y. pairs-at OtherBase S no_module (λ a b f u. f (sym u)) o j d (omega arith) l (λ u. absurd (omega arith)) (y ∙ sym (e no_module)))
    h.recorded in
    goes d g.0 l (e no_module) (c no_module) q (g.2 ∙ ap (stands g.0) (let z : 0 + d ≡ d = omega arith in z)) g.1
found base S r o h (stays n q) =
    none q
    (finds_none (image_at S) r.modules 0 base
    (λ j l. each_at (λ a. base_of a.load_call ≢ base) S no_module n j (omega (arith, h.number))) h.recorded)

-- the last of a list
pub last-at : (S : List LoadedModule) (a d : LoadedModule) → get_or (S ++ (a ∷ [])) (length S) d ≡ a
last-at [] a d = refl
last-at (b ∷ S) a d = last-at S a d
