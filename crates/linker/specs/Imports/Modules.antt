-- All modules in load order but the last, which is the new one.
use Rattle.std.specs.Prelude.{◌≡◌, ℕ, List, [], ◌∷◌, ◌++◌, refl}
use Rattle.std.proofs.Common.{ap, ◌∙◌, subst}
use Rattle.register.specs.Module.{Module}
use Rattle.register.specs.Decode.{read_register, register_of}
use Rattle.register.specs.Read.Read.{Encoded, modules_of, place_after, module_at}
use Rattle.register.specs.Read.Places.{RecordsStand, stands_at}
use Rattle.register.specs.Read.Encoded.{modules_stand}

-- all but the last
unfoldable pub but_last : List Module → List Module
but_last [] = []
but_last (m ∷ []) = []
but_last (m ∷ n ∷ ms) = m ∷ but_last (n ∷ ms)

-- what a call knows of them: a new module is the last, its record beginning after the others'

but_last_lem : (ms : List Module) (m : Module) → but_last (ms ++ (m ∷ [])) ≡ ms
unfolding but_last
but_last_lem [] m = refl
but_last_lem (n ∷ []) m = refl
but_last_lem (n ∷ o ∷ ms) m = ap (λ t. n ∷ t) (but_last_lem (o ∷ ms) m)

module _ (records names : List ℕ) (e : Encoded records names) where
  abbrev all : List Module
  all = modules_of records names

  pub new_is_last : (ms : List Module) (m : Module) → all ≡ ms ++ (m ∷ []) → (but_last all ≡ ms) × (module_at records names (place_after 32 ms) ≡ m)
  new_is_last ms m s =
      let d = subst (RecordsStand records names 32) s (modules_stand records names e.0 e.1) in
      (ap but_last s ∙ but_last_lem ms m, (stands_at ms [] d).back)

-- the modules that a call's register has
pub modules_are : (records names missing : List ℕ) → (register_of records names missing).modules ≡ modules_of records names
unfolding register_of read_register modules_of
modules_are records names missing = refl
