-- From the branches to the definitions of `Entry`.
use Rattle.std.proofs.Common.{◌≡◌, ℕ, Bool, List, Option, Some, None, Ok, Err, sym, ap, ◌∙◌, subst}
use Rattle.window.specs.Access.{Prog, run}
use Rattle.window.specs.Trace.{State, run_t}
use Rattle.window.specs.Silent.{reads_run_t}
use Rattle.register.specs.Module.{Module}
use Rattle.register.specs.Change.{appended}
use Rattle.linker_spec.specs.Refusal.{Rebased, refusal_number, rebase_refusal}
use Rattle.linker_spec.specs.Relocation.{reset_external_relocations}
use Rattle.linker_spec.specs.Exports.{read_module, read_module_reads}
use Rattle.linker_spec.specs.Calls.{Answer, number, add_record}
use Rattle.linker_spec.specs.Outcome.{register_after}
use Rattle.linker_spec.specs.Touches.{counted}
use Rattle.linker_spec.specs.declared.refusal.RebaseError.{RebaseError}
use Rattle.linker.specs.Exports.Exported.{register_in, entry_answer, exported}
use Rattle.linker.specs.Entry.Entry.{EntryResult, record_added, record_added-done}

-- the entry of a module, as its parts give it

module _ (at : ℕ) (w t records names : List ℕ) (base size : ℕ) (auto : Bool) where
  pub add_record-not_rebased
      : {x : Rebased} (error : RebaseError) → x ≡ Err error
      → ◌≡◌ {A = EntryResult} (refusal_number (rebase_refusal error), (w, t), records, names) (record_added at records names base size auto x (w, t))
  unfolding record_added add_record run_t number counted register_after
  add_record-not_rebased RebaseError.NotACro e = rw e
  add_record-not_rebased RebaseError.BadSegment e = rw e

  abbrev reading : Prog Module
  reading = read_module base size auto

  -- the answer that the entry of the module m is
  abbrev answer : Module → Option (Unit {0}) → Answer
  answer m i = entry_answer (appended (register_in records names) m) i

  -- what the entry leaves where the external reset left s
  abbrev after : State → Option (Unit {0}) → List ℕ → List ℕ → EntryResult
  after s i rs ns =
      let a = answer (run at reading s.0).0 i in
      (number a, (s.0, counted a s.1 (run_t at reading s).1.1), rs, ns)

  module _ {x : Rebased} (e : x ≡ Ok tt) {u t₁ : List ℕ} (es : ◌≡◌ {A = State} (u, t₁) (run_t at (reset_external_relocations base) (w, t)).1) (i : Option (Unit {0}))
      {rs ns : List ℕ}
      (ei : ◌≡◌ {A = Answer × List ℕ × List ℕ} (answer (run at reading u).0 i, rs, ns) (exported records names (run at reading u).0)) where
    add_record_is : ◌≡◌ {A = EntryResult} (after (u, t₁) i rs ns) (record_added at records names base size auto x (w, t))
    add_record_is =
        let v = (run_t at (reset_external_relocations base) (w, t)).1 in
        let q = (reads_run_t at reading v (read_module_reads base size auto)).0 in
        let z : ◌≡◌ {A = Answer × List ℕ × List ℕ} (answer (run at reading v.0).0 i, rs, ns) (exported records names (run at reading v.0).0) =
        subst (λ (s : State). ◌≡◌ {A = Answer × List ℕ × List ℕ} (answer (run at reading s.0).0 i, rs, ns) (exported records names (run at reading s.0).0))
        es ei in
        ap (λ (s : State). after s i rs ns) es
        ∙ ap (λ (y : Answer × List ℕ × List ℕ). (number y.0, (v.0, counted y.0 v.1 (run_t at reading v).1.1), y.1, y.2)) z
        ∙ rw (e, record_added-done at base size auto (w, t) records names, q)

    pub add_record-no_room : i ≡ None → ◌≡◌ {A = EntryResult} (5, (u, t₁), rs, ns) (record_added at records names base size auto x (w, t))
    unfolding entry_answer number counted
    add_record-no_room z = ap (λ j. after (u, t₁) j rs ns) (sym z) ∙ add_record_is

    pub add_record-done
        : i ≡ Some tt → {t₂ : List ℕ} → ◌≡◌ {A = State} (u, t₂) (run_t at reading (u, t₁)).1
        → ◌≡◌ {A = EntryResult} (0, (u, t₂), rs, ns) (record_added at records names base size auto x (w, t))
    unfolding entry_answer number counted
    add_record-done z h =
        ap (λ (s : State). (0, (u, s.1), rs, ns)) h ∙ ap (λ j. after (u, t₁) j rs ns) (sym z) ∙ add_record_is
