-- All modules in load order but the one that an unload removes, as a walk over the records leaves it out.
use Rattle.std.specs.Prelude.{if◌then◌else◌, ◌≡◌, ℕ, suc, ◌+◌, ◌<◌, ◌≤◌, Bool, true, false, List, [], ◌∷◌, ◌++◌, length, ◌==◌, nat_eq, refl, Some, None}
use Rattle.std.proofs.Common.{sym, ap, ◌∙◌, arith, eq-eqb, ne_eqb}
use Rattle.window.specs.Access.{Prog, ret}
use Rattle.register.specs.Module.{Module}
use Rattle.register.specs.Change.{without}
use Rattle.register.specs.declared.read.Record.{Record}
use Rattle.register.specs.Read.Read.{Encoded, modules_of, module_bytes, place_from, place_after, has_base, module_at}
use Rattle.register.specs.Read.Encoded.{first-placed}
use Rattle.linker_spec.specs.Resets.{reset_imports}
use Rattle.linker_spec.specs.Calls.{stands, first_with_base}

-- all but the one whose record begins at `place`, the first one's beginning at `p`
unfoldable pub other_than : ℕ → ℕ → List Module → List Module
other_than place p [] = []
other_than place p (m ∷ ms) = if p == place then other_than place (p + module_bytes m) ms else m ∷ other_than place (p + module_bytes m) ms

-- a turn of the walk that resets: the record's own module, or one that is not auto-linked, is passed over
unfoldable pub reset_importer : Module → ℕ → Record → Prog (Unit {0})
reset_importer gone place r =
    if r.place == place then ret tt else (if nat_eq r.auto_link 1 then reset_imports gone r.base else ret tt)

-- the first module with a base is the one that an unload removes

after-past : (p : ℕ) (ms : List Module) → p ≤ place_after p ms
unfolding place_after
after-past p [] = omega arith
after-past p (m ∷ ms) = let h = after-past (p + module_bytes m) ms in omega arith

some_bytes : (m : Module) → 0 < module_bytes m
unfolding module_bytes
some_bytes m = omega arith

others-after : (place p : ℕ) (ms : List Module) → place < p → other_than place p ms ≡ ms
unfolding other_than
others-after place p [] h = refl
others-after place p (m ∷ ms) h =
    rw (ne_eqb p place (λ z. omega arith)) (ap (λ t. m ∷ t) (others-after place (p + module_bytes m) ms (omega arith)))

others_are
    : (p : ℕ) (before : List Module) (m : Module) (after : List Module)
    → other_than (place_after p before) p (before ++ (m ∷ after)) ≡ before ++ after
unfolding other_than place_after
others_are p [] m after = rw (eq-eqb p p refl) (others-after p (p + module_bytes m) after (let k = some_bytes m in omega arith))
others_are p (b ∷ before) m after =
    let k = some_bytes b in
    let l = after-past (p + module_bytes b) before in
    rw (ne_eqb p (place_after (p + module_bytes b) before) (λ z. omega arith))
    (ap (λ t. b ∷ t) (others_are (p + module_bytes b) before m after))

without_is : (before : List Module) (m : Module) (after : List Module) → without (before ++ (m ∷ after)) (length before) ≡ before ++ after
unfolding without
without_is [] m after = refl
without_is (b ∷ before) m after = ap (λ t. b ∷ t) (without_is before m after)

first_is
    : (base p i : ℕ) (before : List Module) (m : Module) (after : List Module) → place_from p before (has_base base) ≡ None
    → has_base base m ≡ true → first_with_base base (before ++ (m ∷ after)) i ≡ stands m (i + length before)
unfolding place_from has_base first_with_base
first_is base p i [] m after e h = let z : i + 0 ≡ i = omega arith in rw (h, z)
first_is base p i (b ∷ before) m after e h =
    let z : suc i + length before ≡ i + suc (length before) = omega arith in
    go (b.base == base) e (λ k. first_is base (p + module_bytes b) (suc i) before m after k h ∙ ap (stands m) z)
  where
    go
        : (t : Bool) → (if t then Some p else place_from (p + module_bytes b) before (has_base base)) ≡ None
        → (place_from (p + module_bytes b) before (has_base base) ≡ None
        → first_with_base base (before ++ (m ∷ after)) (suc i) ≡ stands m (i + suc (length before)))
        → (if t then stands b i else first_with_base base (before ++ (m ∷ after)) (suc i)) ≡ stands m (i + suc (length before))
    go true e k = let z : ◌≡◌ {A = ℕ} 0 1 = cc in absurd (omega arith)
    go false e k = k e

pub gone_is
    : (records names : List ℕ) (base : ℕ) {place : ℕ} → Encoded records names
    → place_from 32 (modules_of records names) (has_base base) ≡ Some place
    → (k : ℕ)
    × ((first_with_base base (modules_of records names) 0 ≡ stands (module_at records names place) k)
    × (other_than place 32 (modules_of records names) ≡ without (modules_of records names) k))
gone_is records names base {place} e f =
    let d = first-placed records names (has_base base) e f in
    let z : 0 + length d.before ≡ length d.before = omega arith in (
      length d.before,
      (
        ap (λ t. first_with_base base t 0) d.split
            ∙ first_is base 32 0 d.before d.found d.after d.first d.passes
            ∙ ap (stands d.found) z
            ∙ ap (λ m. stands m (length d.before)) (sym d.stands.back),
        ap (λ p. other_than p 32 (modules_of records names)) d.at
            ∙ ap (other_than (place_after 32 d.before) 32) d.split
            ∙ others_are 32 d.before d.found d.after
            ∙ sym (ap (λ t. without t (length d.before)) d.split ∙ without_is d.before d.found d.after),
      ),
    )
