-- What the steps and calls may answer: how far a batch walk counts, which numbers a call has.
use Prim.Native.Nat.{ℕ, zero, suc, ◌+◌, ◌^◌, ◌≤◌, ◌<◌}
use Rattle.std.specs.Prelude.{if◌then◌else◌, ◌≡◌, Bool, Some, Ok, Err}
use Rattle.std.proofs.Math.Path.{refl, sym, ap}
use Rattle.std.proofs.Common.{subst, ◌∙◌, eq-eqb, ne_eqb}
use mathlib.Core.List.{List}
use Rattle.std.proofs.Math.Bool.{true, false}
use native.Mathlib.Omega.{arith}
use Rattle.std.proofs.Math.Dec.{eqb}
use Rattle.window.specs.Memory.{◌⊕◌, byte_at, word_at}
use Rattle.window.specs.Access.{Prog, ret, ◌>>=◌, ◌>>◌, run, run_bind}
use Rattle.layout.specs.Header.{relocation_entry_size}
use Rattle.layout.specs.Tables.{pointer_tables}
use Rattle.layout.specs.Segments.{set_field, tag_to_address}
use Rattle.register.specs.Module.{Register}
use Rattle.linker_spec.specs.Refusal.{Rebased}
use Rattle.linker_spec.specs.Rebase.{is_magic, move_header, look_at_segments, move_tables}
use Rattle.linker_spec.specs.Relocation.{relocate_at, walk, batch_limit, reset_external_relocations, apply_internal_relocations}
use Rattle.linker_spec.specs.Exports.{read_module}
use Rattle.register.specs.Change.{without}
use Rattle.linker_spec.specs.Resets.{reset_importers}
use Rattle.linker_spec.specs.Unrebase.{unrebase}
use Rattle.linker_spec.specs.Calls.{number, unlisted, relocate, rebase_with, rebase_static, fits, add_record, initialized, initialize, FirstWithBase, unknown, stands, leave, unload, first_with_base}
use Rattle.linker_spec.specs.AnyResult.{AnyResult, gives_run, gives_bind, gives_then, gives_if}
use Rattle.linker_spec.specs.Answers.{Counted, MarkedAfter, Not2, Unmarked, afterEntry}
use Rattle.linker_spec.specs.declared.refusal.RebaseError.{RebaseError}

module _ (least most base symbol : ℕ) where
  walk_step
      : (f entry n : ℕ) → Counted least most (suc n)
      → AnyResult (Counted least most) (walk f base symbol (entry ⊕ relocation_entry_size) (suc n))
      → AnyResult (Counted least most) (walk (suc f) base symbol entry n)
  unfolding walk AnyResult ◌>>=◌
  walk_step f entry n h g =
      λ tag kind end addend. gives_then (Counted least most) _ (tag_to_address base tag)
      (λ target. gives_then (Counted least most) _ (relocate_at target kind addend symbol)
      (λ _. gives_if (Counted least most) (eqb end 0) _ _ g h))

  walk-counts : (f entry n : ℕ) → least ≤ n → n + f ≤ most → AnyResult (Counted least most) (walk f base symbol entry n)
  unfolding walk AnyResult
  walk-counts zero entry n h g = (h, omega arith)
  walk-counts (suc f) entry n h g =
      walk_step f entry n (omega arith, omega arith)
      (walk-counts f (entry ⊕ relocation_entry_size) (suc n) (omega arith) (omega arith))

pub batch-counts : (base symbol batch : ℕ) → AnyResult (Counted 1 0x1001) (walk batch_limit base symbol batch 0)
batch-counts base symbol batch =
    walk_step 1 0x1001 base symbol 0x1000 batch 0 (omega arith, omega arith)
    (walk-counts 1 0x1001 base symbol 0x1000 (batch ⊕ relocation_entry_size) 1 (omega arith) (omega arith))

-- so every count fits 16 bits
pub counts-fit : (at base symbol batch : ℕ) (w : List ℕ) → (run at (walk batch_limit base symbol batch 0) w).0 < 2 ^ 16
counts-fit at base symbol batch w =
    let c = gives_run (Counted 1 0x1001) at (walk batch_limit base symbol batch 0) w (batch-counts base symbol batch) in
    omega (arith, c.1)

-- What a walk yields in any window, by its end marks as they are read: each after the entries before it were applied.
module _ (at base symbol : ℕ) where
  -- what follows an entry runs on the window that it leaves
  applied
      : (tag kind addend : ℕ) (next : Prog ℕ) (w : List ℕ)
      → run at (tag_to_address base tag >>= λ target. relocate_at target kind addend symbol >> next) w
      ≡ run at next (run at (tag_to_address base tag >>= λ target. relocate_at target kind addend symbol) w).1
  applied tag kind addend next w =
      let t = run at (tag_to_address base tag) w in
      run_bind at (tag_to_address base tag) _ w
      ∙ run_bind at (relocate_at t.0 kind addend symbol) (λ _. next) t.1
      ∙ ap (λ (r : Unit {0} × List ℕ). run at next r.1)
      (sym (run_bind at (tag_to_address base tag) (λ target. relocate_at target kind addend symbol) w))

  ends-either-way : (b : Bool) (n : ℕ) (w : List ℕ) → (run at (if b then ret n else ret n) w).1 ≡ w
  unfolding run
  ends-either-way true n w = refl
  ends-either-way false n w = refl

  -- a turn: the entry, then by its end mark the rest of the walk or its end
  turn
      : (f entry n : ℕ) (w : List ℕ)
      → run at (walk (suc f) base symbol entry n) w
      ≡ run at (if eqb (byte_at at w (entry ⊕ 5)) 0 then walk f base symbol (entry ⊕ relocation_entry_size) (suc n) else ret (suc n))
      (afterEntry at base symbol w entry)
  unfolding walk run ◌>>=◌
  turn f entry n w =
      let unmarked = eqb (byte_at at w (entry ⊕ 5)) 0 in
      let next : Prog ℕ = if unmarked then walk f base symbol (entry ⊕ relocation_entry_size) (suc n) else ret (suc n) in
      let then_next = applied (word_at at w entry) (byte_at at w (entry ⊕ 4)) (word_at at w (entry ⊕ 8)) in
      then_next next w
      ∙ sym (ap (run at next) (ap (λ (r : ℕ × List ℕ). r.1) (then_next (if unmarked then ret 1 else ret 1) w) ∙ ends-either-way unmarked 1 _))

  goes_on
      : (f entry n : ℕ) (w : List ℕ) → byte_at at w (entry ⊕ 5) ≡ 0
      → run at (walk (suc f) base symbol entry n) w
      ≡ run at (walk f base symbol (entry ⊕ relocation_entry_size) (suc n)) (afterEntry at base symbol w entry)
  goes_on f entry n w e = turn f entry n w ∙ rw (eq-eqb _ 0 e)

  yields-unmarked : (f entry n : ℕ) (w : List ℕ) → Unmarked at base symbol f w entry → (run at (walk f base symbol entry n) w).0 ≡ n + f
  unfolding Unmarked walk run
  yields-unmarked zero entry n w h = omega arith
  yields-unmarked (suc f) entry n w h =
      let e : suc n + f ≡ n + suc f = omega arith in
      ap (λ (r : ℕ × List ℕ). r.0) (goes_on f entry n w h.0) ∙ yields-unmarked f (entry ⊕ relocation_entry_size) (suc n) _ h.1 ∙ e

  -- request 4: "a walk of 0x1001 entries without an end mark still yields 0x1001"
  pub unmarked-yields
      : (batch : ℕ) (w : List ℕ) → Unmarked at base symbol 0x1001 w batch → (run at (walk batch_limit base symbol batch 0) w).0 ≡ 0x1001
  unmarked-yields batch w h = yields-unmarked batch_limit batch 0 w h

  yields-marked
      : (k f entry n : ℕ) (w : List ℕ) → k < f → MarkedAfter at base symbol k w entry → (run at (walk f base symbol entry n) w).0 ≡ n + suc k
  unfolding MarkedAfter run
  yields-marked k zero entry n w l h = absurd (omega (arith, l))
  yields-marked zero (suc f) entry n w l h =
      let e : suc n ≡ n + 1 = omega arith in
      ap (λ (r : ℕ × List ℕ). r.0) (turn f entry n w) ∙ rw (ne_eqb _ 0 h, run) e
  yields-marked (suc k) (suc f) entry n w l h =
      let e : suc n + suc k ≡ n + suc (suc k) = omega arith in
      ap (λ (r : ℕ × List ℕ). r.0) (goes_on f entry n w h.0)
      ∙ yields-marked k f (entry ⊕ relocation_entry_size) (suc n) _ (omega (arith, l)) h.1
      ∙ e

  -- and one that meets an end mark yields the entries up to it, the last of 0x1001 included
  pub marked-yields
      : (k batch : ℕ) (w : List ℕ) → k < 0x1001 → MarkedAfter at base symbol k w batch → (run at (walk batch_limit base symbol batch 0) w).0 ≡ suc k
  marked-yields k batch w l h = let e : 0 + suc k ≡ suc k = omega arith in yields-marked k batch_limit batch 0 w l h ∙ e

-- "`initialize` neither changes nor checks segments": it never answers 2
abbrev NoBadSegment : Rebased → Type 0
NoBadSegment (Err RebaseError.NotACro) = Unit {0}
NoBadSegment (Err RebaseError.BadSegment) = ⊥
NoBadSegment (Ok _) = Unit {0}

whole-static : (base : ℕ) → AnyResult NoBadSegment (rebase_static base)
unfolding rebase_static rebase_with relocate AnyResult ◌>>=◌
whole-static base =
    λ word. gives_if NoBadSegment (is_magic word) _ _
    (gives_then NoBadSegment _ (move_header true base)
    (λ _. gives_bind (λ m. m ≡ Some 0) NoBadSegment (relocate base) (look_at_segments base >> ret (Some 0))
    (gives_then (λ m. m ≡ Some 0) (λ _. ret (Some 0)) (look_at_segments base) (λ _. refl))
    (λ m e. subst (λ m. AnyResult NoBadSegment (relocate base m)) (sym e)
    (gives_then NoBadSegment _ (move_tables true base pointer_tables) (λ _. gives_then NoBadSegment _ (apply_internal_relocations base 0) (λ _. tt))))))
    tt

module _ (base size records names : ℕ) (r : Register) where
  enters-not-2 : (x : Rebased) → NoBadSegment x → AnyResult (Not2 base size records names r) (add_record records names r base size true (initialized r base) x)
  unfolding add_record initialized set_field number AnyResult ◌>>=◌
  enters-not-2 (Err RebaseError.NotACro) h = refl
  enters-not-2 (Err RebaseError.BadSegment) h = absurd h
  enters-not-2 (Ok _) h =
      gives_then (Not2 base size records names r) _ (reset_external_relocations base)
      (λ _. gives_then (Not2 base size records names r) _ (read_module base size true) (λ m. gives_if (Not2 base size records names r) (fits records names r m) _ _ refl refl))

  pub initialize-not-2 : AnyResult (Not2 base size records names r) (initialize base size records names r)
  unfolding initialize
  initialize-not-2 = gives_bind NoBadSegment (Not2 base size records names r) _ (rebase_static base) (whole-static base) enters-not-2

-- an unload on a good window and register answers 0
pub unload-0 : (base : ℕ) (r : Register) → AnyResult (λ a. number a ≡ 0) (unload base r)
unfolding unload leave number AnyResult
unload-0 base r = go (first_with_base base r.modules 0)
  where
    go : (x : FirstWithBase) → AnyResult (λ a. number a ≡ 0) (leave r base x)
    go unknown = refl
    go (stands m k) =
        gives_then _ _ (reset_importers m (without r.modules k))
        (λ _. gives_then _ _ (unlisted r.crs base) (λ _. gives_then _ _ (unrebase base) (λ _. refl)))
