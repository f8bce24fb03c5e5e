-- The number of a load and of an `initialize`, for all inputs: 3, 4, 1, 2, and then 0 or 5 as the record fits or not.
use Rattle.std.specs.Prelude.{if◌then◌else◌, ℕ, ◌≡◌, Bool, not, length, eqb, Option, Some, None, Ok}
use Rattle.std.proofs.Math.Path.{refl, ap}
use Rattle.std.proofs.Common.{sym, ◌∙◌, arith}
use mathlib.Core.List.{List}
use Rattle.std.proofs.Math.Bool.{true, false}
use Rattle.window.specs.Memory.{◌⊕◌, good_window, word_at}
use Rattle.window.specs.Access.{Prog, ret, ◌>>=◌, run, run_bind}
use Rattle.layout.specs.Header.{magic, next_cro, previous_cro}
use Rattle.layout.specs.Tables.{pointer_tables}
use Rattle.layout.specs.Segments.{set_field}
use Rattle.register.specs.Module.{Module, Register}
use Rattle.register.specs.Decode.{is_register}
use Rattle.register.specs.Change.{appended}
use Rattle.linker_spec.specs.Rebase.{is_magic, move_header, move_segments, look_at_segments, move_tables}
use Rattle.linker_spec.specs.declared.rebase.LoadArguments.{LoadArguments}
use Rattle.linker_spec.specs.Refusal.{Rebased}
use Rattle.linker_spec.specs.Relocation.{apply_internal_relocations, reset_external_relocations}
use Rattle.linker_spec.specs.Exports.{read_module}
use Rattle.linker_spec.specs.Imports.{apply_import_named_symbols, apply_module_imports, apply_exports_to_loaded}
use Rattle.linker_spec.specs.Fix.{fix}
use Rattle.linker_spec.specs.Calls.{Answer, number, relocate, rebase_with, rebase, rebase_static, fits, add_record, initialized, initialize, listed, linked, load}
use Rattle.linker_spec.specs.Outcome.{Buffers, outcome_of, refusal_order, call_outcome, initialize_outcome, load_outcome}
use Rattle.linker_spec.specs.Refusals.{lent_register}
use Rattle.linker_spec.proofs.Refusals.{run-then, enters_1, enters_2}
use Rattle.linker_spec.specs.AnyResult.{AnyResult, gives_run, gives_then}
use Rattle.linker_spec.specs.Numbers.{entry_number, fits_in, initialized_module, loaded_module, read_after}

abbrev Zero : Answer → Type 0
Zero a = number a ≡ 0

-- what `initialize` and `load` have in common
module _ (base size : ℕ) (auto : Bool) (segments : Prog (Option ℕ)) (next : Module → Prog Answer) (h : (m : Module) → AnyResult Zero (next m))
    (records names : ℕ) (r : Register) (at : ℕ) (w : List ℕ) where
  abbrev call : Prog Answer
  call = rebase_with base segments >>= add_record records names r base size auto next

  abbrev fitting : Bool
  fitting = fits records names r (read_after at base size auto (run at (rebase_with base segments) w).1)

  relocates : (old : ℕ) (v : List ℕ) → (run at (relocate base (Some old)) v).0 ≡ Ok tt
  unfolding relocate run
  relocates old v =
      ap (λ (y : Rebased × List ℕ). y.0)
      (run_bind at (move_tables true base pointer_tables) _ v
      ∙ run_bind at (apply_internal_relocations base old) _ (run at (move_tables true base pointer_tables) v).1)

  rebased_by
      : {old : ℕ} {v : List ℕ} → is_magic (word_at at w (base ⊕ magic)) ≡ true
      → run at segments (run at (move_header true base) w).1 ≡ (Some old, v) → (run at (rebase_with base segments) w).0 ≡ Ok tt
  unfolding rebase_with run ◌>>=◌
  rebased_by {old} {v} e s =
      ap (λ (y : Rebased × List ℕ). y.0)
      (run-then at _ _ w (is_magic (word_at at w (base ⊕ magic))) e
      ∙ run_bind at (move_header true base) _ w
      ∙ run_bind at segments _ (run at (move_header true base) w).1)
      ∙ rw s (relocates old v)

  enter_number
      : (v : List ℕ) (t : Bool) → fits records names r (read_after at base size auto v) ≡ t
      → number (run at (add_record records names r base size auto next (Ok tt)) v).0 ≡ (if t then 0 else 5)
  unfolding add_record number run
  enter_number v true f =
      rw (run_bind at (reset_external_relocations base) _ v, run_bind at (read_module base size auto) _ (run at (reset_external_relocations base) v).1, f)
      (gives_run Zero at (next (read_after at base size auto v)) _ (h (read_after at base size auto v)))
  enter_number v false f =
      rw (run_bind at (reset_external_relocations base) _ v, run_bind at (read_module base size auto) _ (run at (reset_external_relocations base) v).1, f)

  pub entry-number
      : number (run at call w).0
      ≡ (if is_magic (word_at at w (base ⊕ magic)) then entry_number (run at segments (run at (move_header true base) w).1).0 fitting else 1)
  unfolding number
  entry-number = go (is_magic (word_at at w (base ⊕ magic))) refl (run at segments (run at (move_header true base) w).1) refl
    where
      go
          : (t : Bool) → is_magic (word_at at w (base ⊕ magic)) ≡ t → (x : Option ℕ × List ℕ)
          → run at segments (run at (move_header true base) w).1 ≡ x
          → number (run at call w).0 ≡ (if t then entry_number x.0 fitting else 1)
      go false e x s = ap (λ (y : Answer × List ℕ). number y.0) (enters_1 base size auto segments next records names r at w e)
      go true e (None, v) s = ap (λ (y : Answer × List ℕ). number y.0) (enters_2 base size auto segments next records names r at w e s)
      go true e (Some old, v) s =
          ap (λ (y : Answer × List ℕ). number y.0) (run_bind at (rebase_with base segments) _ w)
          ∙ ap (λ x. number (run at (add_record records names r base size auto next x) (run at (rebase_with base segments) w).1).0) (rebased_by e s)
          ∙ enter_number (run at (rebase_with base segments) w).1 fitting refl

linked_0 : (r : Register) (l : LoadArguments) (auto : Bool) (level : ℕ) (m : Module) → AnyResult Zero (linked r l auto level m)
unfolding linked number AnyResult
linked_0 r l auto level m =
    gives_then Zero _ (listed r.crs l.base auto)
    (λ _. gives_then Zero _ (apply_import_named_symbols (appended r m).modules l.base r.missing)
    (λ _. gives_then Zero _ (apply_module_imports (appended r m).modules l.base)
    (λ _. gives_then Zero _ (apply_exports_to_loaded m r.modules) (λ _. gives_then Zero _ (fix l.base l.size level) (λ _. refl)))))

initialized_0 : (r : Register) (base : ℕ) (m : Module) → AnyResult Zero (initialized r base m)
unfolding initialized number AnyResult
initialized_0 r base m = gives_then Zero _ (set_field base next_cro 0) (λ _. gives_then Zero _ (set_field base previous_cro 0) (λ _. refl))

-- the number of any call: 3, then 4, then its answer's
outcome-number
    : (call : ℕ → ℕ → Register → Prog Answer) (at : ℕ) (b : Buffers)
    → (call_outcome call at b).number
    ≡ (if good_window at b.window
    then (if is_register b.records b.names b.missing
    then number (run at (call (length b.records) (length b.names) (lent_register b)) b.window).0 else 4) else 3)
unfolding call_outcome outcome_of number
outcome-number call at b = go (good_window at b.window) (is_register b.records b.names b.missing)
  where
    x : Answer × List ℕ
    x = run at (call (length b.records) (length b.names) (lent_register b)) b.window

    go : (g v : Bool) → (refusal_order g v b (outcome_of b x)).number ≡ (if g then (if v then number x.0 else 4) else 3)
    go false v = refl
    go true false = refl
    go true true = refl

module _ (at : ℕ) (b : Buffers) where
  -- the whole table for a load: 3, 4, 1, 2, and then 0 or 5
  pub load-number
      : (l : LoadArguments) (auto level : ℕ)
      → (load_outcome l auto level at b).number
      ≡ (if good_window at b.window then (if is_register b.records b.names b.missing
      then (if is_magic (word_at at b.window (l.base ⊕ magic))
      then entry_number (run at (move_segments l) (run at (move_header true l.base) b.window).1).0
      (fits_in at b (loaded_module at l (not (eqb auto 0)) b.window))
      else 1) else 4) else 3)
  unfolding load_outcome load rebase
  load-number l auto level =
      outcome-number (load l (not (eqb auto 0)) level) at b
      ∙ ap (λ n. if good_window at b.window then (if is_register b.records b.names b.missing then n else 4) else 3)
      (entry-number l.base l.size (not (eqb auto 0)) (move_segments l) _ (linked_0 (lent_register b) l (not (eqb auto 0)) level)
      (length b.records) (length b.names) (lent_register b) at b.window)

  looked : (base : ℕ) (w : List ℕ) → (run at {A = Option ℕ} (look_at_segments base >>= λ _. ret (Some 0)) w).0 ≡ Some 0
  unfolding run
  looked base w = ap (λ (y : Option ℕ × List ℕ). y.0) (run_bind at (look_at_segments base) _ w)

  pub initialize-number
      : (base size : ℕ)
      → (initialize_outcome base size at b).number
      ≡ (if good_window at b.window then (if is_register b.records b.names b.missing
      then (if is_magic (word_at at b.window (base ⊕ magic))
      then (if (fits_in at b) (initialized_module at base size b.window) then 0 else 5)
      else 1) else 4) else 3)
  unfolding initialize_outcome initialize rebase_static
  initialize-number base size =
      outcome-number (initialize base size) at b
      ∙ ap (λ n. if good_window at b.window then (if is_register b.records b.names b.missing then n else 4) else 3)
      (entry-number base size true _ _ (initialized_0 (lent_register b) base) (length b.records) (length b.names) (lent_register b) at b.window
      ∙ ap (λ x. if is_magic (word_at at b.window (base ⊕ magic)) then entry_number x (fits_in at b (initialized_module at base size b.window)) else 1)
      (looked base (run at (move_header true base) b.window).1))

  -- a load that passes 1 and 2 answers 0 if its record fits, and 5 exactly if not
  module _ (g : good_window at b.window ≡ true) (v : is_register b.records b.names b.missing ≡ true) (l : LoadArguments) (auto level : ℕ)
      (m : is_magic (word_at at b.window (l.base ⊕ magic)) ≡ true) (old : ℕ)
      (s : (run at (move_segments l) (run at (move_header true l.base) b.window).1).0 ≡ Some old) where
    pub load_fits : (load_outcome l auto level at b).number ≡ (if (fits_in at b) (loaded_module at l (not (eqb auto 0)) b.window) then 0 else 5)
    load_fits = load-number l auto level ∙ rw (g, v, m, s)

    pub load_0 : fits_in at b (loaded_module at l (not (eqb auto 0)) b.window) ≡ true → (load_outcome l auto level at b).number ≡ 0
    load_0 f = load_fits ∙ rw f

    pub load_5_only : (load_outcome l auto level at b).number ≡ 5 → fits_in at b (loaded_module at l (not (eqb auto 0)) b.window) ≡ false
    load_5_only e = go (fits_in at b (loaded_module at l (not (eqb auto 0)) b.window)) (sym load_fits ∙ e)
      where
        go : (t : Bool) → ◌≡◌ {A = ℕ} (if t then 0 else 5) 5 → t ≡ false
        go true z = absurd (omega arith)
        go false z = refl
