-- What a refused call leaves: document 01's column "leaves", and the order of refusals 3, 4, 1, 2, 5.
use Rattle.std.specs.Prelude.{if◌then◌else◌, ℕ, ◌≡◌, refl, List, Bool, false, not, length, eqb, Option, None, Ok, Err}
use Rattle.std.proofs.Common.{◌∙◌}
use Rattle.std.proofs.Math.Bool.{true}
use Rattle.window.specs.Memory.{◌⊕◌, good_window, word_at}
use Rattle.window.specs.Access.{Prog, ◌>>=◌, run, run_bind, reads_same}
use Rattle.layout.specs.Header.{magic}
use Rattle.register.specs.Module.{Module, Register}
use Rattle.register.specs.Decode.{is_register}
use Rattle.linker_spec.specs.declared.rebase.LoadArguments.{LoadArguments}
use Rattle.linker_spec.specs.Rebase.{is_magic, move_header, move_segments}
use Rattle.linker_spec.specs.Relocation.{reset_external_relocations}
use Rattle.linker_spec.specs.Exports.{read_module, read_module_reads}
use Rattle.linker_spec.specs.Calls.{Answer, NotLoaded, Done, number, value, relocate, rebase_with, rebase, rebase_static, fits, add_record, initialize, load, unknown, first_with_base, leave, unload, Refused}
use Rattle.linker_spec.specs.Outcome.{Buffers, refused, register_after, outcome_of, refusal_order, call_outcome, initialize_outcome, load_outcome, unload_outcome}
use Rattle.linker_spec.specs.Refusals.{lent_register, windowed}
use Rattle.linker_spec.specs.declared.refusal.Refusal.TheVariants.{NotACro, BadSegment, BadWindow, NoRegister, NoRoom}
use Rattle.linker_spec.specs.declared.refusal.RebaseError.{RebaseError}

module _ (call : ℕ → ℕ → Register → Prog Answer) (at : ℕ) (b : Buffers) where
  -- 3 comes first, whatever the register and the call
  pub refuses_3 : good_window at b.window ≡ false → call_outcome call at b ≡ refused BadWindow b
  unfolding call_outcome
  refuses_3 g = rw g

  module _ (g : good_window at b.window ≡ true) where
    -- then 4, whatever the call
    pub refuses_4 : is_register b.records b.names b.missing ≡ false → call_outcome call at b ≡ refused NoRegister b
    unfolding call_outcome
    refuses_4 r = rw (g, r)

    -- then what the call answers
    pub answers
        : is_register b.records b.names b.missing ≡ true → {a : Answer} {w : List ℕ}
        → run at (call (length b.records) (length b.names) (lent_register b)) b.window ≡ (a, w)
        → call_outcome call at b ≡ outcome_of b (a, w)
    unfolding call_outcome
    answers r e = rw (g, r, e)

-- a test whose value is known
module _ {A : Type 0} (at : ℕ) (p q : Prog A) (w : List ℕ) (b : Bool) where
  pub run-then : b ≡ true → run at (if b then p else q) w ≡ run at p w
  run-then e = rw e

  run_else : b ≡ false → run at (if b then p else q) w ≡ run at q w
  run_else e = rw e

-- what `initialize` and `load` have in common: the rebase, then entering the register
module _ (base size : ℕ) (auto : Bool) (segments : Prog (Option ℕ)) (next : Module → Prog Answer) (records names : ℕ) (r : Register)
    (at : ℕ) (w : List ℕ) where
  abbrev entering : Prog Answer
  entering = rebase_with base segments >>= add_record records names r base size auto next

  -- 1: nothing is written
  rebases_1 : is_magic (word_at at w (base ⊕ magic)) ≡ false → run at (rebase_with base segments) w ≡ (Err RebaseError.NotACro, w)
  unfolding rebase_with run ◌>>=◌
  rebases_1 m = run_else at _ _ w (is_magic (word_at at w (base ⊕ magic))) m

  pub enters_1 : is_magic (word_at at w (base ⊕ magic)) ≡ false → run at entering w ≡ (Refused NotACro, w)
  unfolding add_record run
  enters_1 m = run_bind at (rebase_with base segments) _ w ∙ rw (rebases_1 m)

  -- 2: the window as the segments left it, after the header's
  rebases_2
      : is_magic (word_at at w (base ⊕ magic)) ≡ true → {w₂ : List ℕ} → run at segments (run at (move_header true base) w).1 ≡ (None, w₂)
      → run at (rebase_with base segments) w ≡ (Err RebaseError.BadSegment, w₂)
  unfolding rebase_with relocate run ◌>>=◌
  rebases_2 m {w₂} s =
      run-then at _ _ w (is_magic (word_at at w (base ⊕ magic))) m
      ∙ run_bind at (move_header true base) _ w
      ∙ run_bind at segments _ (run at (move_header true base) w).1
      ∙ rw s

  pub enters_2
      : is_magic (word_at at w (base ⊕ magic)) ≡ true → {w₂ : List ℕ} → run at segments (run at (move_header true base) w).1 ≡ (None, w₂)
      → run at entering w ≡ (Refused BadSegment, w₂)
  unfolding add_record run
  enters_2 m {w₂} s = run_bind at (rebase_with base segments) _ w ∙ rw (rebases_2 m s)

  -- 5: the window as after the external reset; reading the record writes nothing
  pub enters_5
      : {w₁ : List ℕ} → run at (rebase_with base segments) w ≡ (Ok tt, w₁)
      → fits records names r (run at (read_module base size auto) (run at (reset_external_relocations base) w₁).1).0 ≡ false
      → run at entering w ≡ (Refused NoRoom, (run at (reset_external_relocations base) w₁).1)
  unfolding add_record run
  enters_5 {w₁} e f =
      let w₂ = (run at (reset_external_relocations base) w₁).1 in
      let s : (run at (read_module base size auto) w₂).1 ≡ w₂ = reads_same at (read_module base size auto) w₂ (read_module_reads base size auto) in
      run_bind at (rebase_with base segments) _ w ∙ rw (e, run_bind, run_bind, f, s)

-- the calls on a good window and register
module _ (at : ℕ) (b : Buffers) (g : good_window at b.window ≡ true) (v : is_register b.records b.names b.missing ≡ true) where
  module _ (l : LoadArguments) (auto level : ℕ) where
    pub load_1 : is_magic (word_at at b.window (l.base ⊕ magic)) ≡ false → load_outcome l auto level at b ≡ refused NotACro b
    unfolding load_outcome load rebase outcome_of number value register_after
    load_1 m = answers (load l (not (eqb auto 0)) level) at b g v (enters_1 _ _ _ _ _ _ _ _ at b.window m)

    pub load_2
        : is_magic (word_at at b.window (l.base ⊕ magic)) ≡ true → {w : List ℕ}
        → run at (move_segments l) (run at (move_header true l.base) b.window).1 ≡ (None, w)
        → load_outcome l auto level at b ≡ refused BadSegment (windowed b w)
    unfolding load_outcome load rebase outcome_of number value register_after
    load_2 m s = answers (load l (not (eqb auto 0)) level) at b g v (enters_2 _ _ _ _ _ _ _ _ at b.window m s)

    pub load_5
        : {w : List ℕ} → run at (rebase l) b.window ≡ (Ok tt, w)
        → fits (length b.records) (length b.names) (lent_register b)
        (run at (read_module l.base l.size (not (eqb auto 0))) (run at (reset_external_relocations l.base) w).1).0 ≡ false
        → load_outcome l auto level at b ≡ refused NoRoom (windowed b (run at (reset_external_relocations l.base) w).1)
    unfolding load_outcome load rebase outcome_of number value register_after
    load_5 e f = answers (load l (not (eqb auto 0)) level) at b g v (enters_5 _ _ _ _ _ _ _ _ at b.window e f)

  module _ (base size : ℕ) where
    pub initialize_1 : is_magic (word_at at b.window (base ⊕ magic)) ≡ false → initialize_outcome base size at b ≡ refused NotACro b
    unfolding initialize_outcome initialize rebase_static outcome_of number value register_after
    initialize_1 m = answers (initialize base size) at b g v (enters_1 _ _ _ _ _ _ _ _ at b.window m)

    pub initialize_5
        : {w : List ℕ} → run at (rebase_static base) b.window ≡ (Ok tt, w)
        → fits (length b.records) (length b.names) (lent_register b)
        (run at (read_module base size true) (run at (reset_external_relocations base) w).1).0 ≡ false
        → initialize_outcome base size at b ≡ refused NoRoom (windowed b (run at (reset_external_relocations base) w).1)
    unfolding initialize_outcome initialize rebase_static outcome_of number value register_after
    initialize_5 e f = answers (initialize base size) at b g v (enters_5 _ _ _ _ _ _ _ _ at b.window e f)

  -- "Unload of an unknown base changes nothing."
  pub unload_unknown
      : (base : ℕ) → first_with_base base (lent_register b).modules 0 ≡ unknown
      → unload_outcome base at b ≡ record { number = 0; value = 0; left = b }
  unfolding unload_outcome unload leave outcome_of number value register_after run
  unload_unknown base u = answers (λ records names. unload base) at b g v {a = NotLoaded} {w = b.window} (rw u)

-- "The register, missing list included, is unchanged by 1 to 5."
keeps : (b : Buffers) (a : Answer) (w : List ℕ) → (number a ≡ 0 → ⊥) → register_after b w a ≡ windowed b w
unfolding register_after number
keeps b (Refused refusal) w n = refl
keeps b NotLoaded w n = absurd (n refl)
keeps b (Done v r) w n = absurd (n refl)

kept_by : (b : Buffers) (x : Answer × List ℕ) → ((outcome_of b x).number ≡ 0 → ⊥) → (outcome_of b x).left ≡ windowed b (outcome_of b x).left.window
unfolding outcome_of
kept_by b (a, w) n = let e = keeps b a w n in rw e

pub refusals_keep
    : (call : ℕ → ℕ → Register → Prog Answer) (at : ℕ) (b : Buffers) → ((call_outcome call at b).number ≡ 0 → ⊥)
    → (call_outcome call at b).left ≡ windowed b (call_outcome call at b).left.window
unfolding call_outcome
refusals_keep call at b =
    go (good_window at b.window) (is_register b.records b.names b.missing)
    (run at (call (length b.records) (length b.names) (lent_register b)) b.window)
  where
    go
        : (g v : Bool) (x : Answer × List ℕ) → ((refusal_order g v b (outcome_of b x)).number ≡ 0 → ⊥)
        → (refusal_order g v b (outcome_of b x)).left ≡ windowed b (refusal_order g v b (outcome_of b x)).left.window
    go false v x n = refl
    go true false x n = refl
    go true true x n = kept_by b x n
