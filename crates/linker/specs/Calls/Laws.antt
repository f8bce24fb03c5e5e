-- What a call has passed when a part of it answers 0, and what it leaves when one does not.
use Rattle.std.specs.Prelude.{◌≡◌, ℕ, Bool, true, false, List, length, ◌≢◌, Ok, Err}
use Rattle.std.proofs.Math.Path.{refl, subst}
use Rattle.std.proofs.Common.{sym, ◌∙◌, arith}
use Rattle.window.specs.Access.{Prog}
use Rattle.window.specs.Trace.{State, run_t}
use Rattle.window.specs.TraceRuns.{two}
use Rattle.window.specs.Silent.{reads_run_t}
use Rattle.layout.specs.Header.{next_cro, previous_cro}
use Rattle.layout.specs.Segments.{set_field}
use Rattle.register.specs.Module.{Module, Register}
use Rattle.register.specs.Change.{appended}
use Rattle.register.specs.Buffers.{encode_records, encode_names}
use Rattle.linker_spec.specs.Refusal.{Rebased}
use Rattle.linker_spec.specs.Relocation.{reset_external_relocations}
use Rattle.linker_spec.specs.Exports.{read_module, read_module_reads}
use Rattle.linker_spec.specs.Calls.{Answer, number, value, fits, add_record}
use Rattle.linker_spec.specs.Outcome.{Buffers, Outcome, register_after, outcome_of, buffers, outcome}
use Rattle.linker_spec.specs.Touches.{reset_rebased, counted}
use Rattle.linker_spec.specs.Refusals.{lent_register}
use Rattle.linker_spec.specs.declared.refusal.RebaseError.{RebaseError}
use Rattle.linker.specs.Exports.Exported.{register_in, exported, fits_in_lem, records_in, names_in}
use Rattle.linker.specs.Entry.Entry.{EntryResult, record_added, add_record-done, record_added-done}
use Rattle.linker.specs.Calls.Steps.{clear_list_fields}

-- the entry of a module

module _ (at : ℕ) (b : Buffers) (base size : ℕ) (auto : Bool) (s : State) where
  abbrev r : Register
  r = lent_register b

  abbrev v : State
  v = (run_t at (reset_external_relocations base) s).1

  abbrev m : Module
  m = (run_t at (read_module base size auto) v).0

  abbrev z : State
  z = (run_t at (read_module base size auto) v).1

  abbrev R : ℕ
  R = length b.records

  abbrev N : ℕ
  N = length b.names

  -- the module that has its record now
  pub record RecordAdded (x : Rebased) (state : State) (records names : List ℕ) : Type 0 where
    pub rebased : x ≡ Ok tt
    pub reset : state.0 ≡ v.0
    pub fit : fits R N r m ≡ true
    pub same : (next : Module → Prog Answer) → run_t at (add_record R N r base size auto next x) s ≡ run_t at (next m) state
    pub records_now : records ≡ encode_records R (appended r m)
    pub names_now : names ≡ encode_names N (appended r m)

  abbrev after : Rebased → EntryResult
  after x = record_added at b.records b.names base size auto x s

  -- after a rebase that is done
  abbrev stored : Answer × List ℕ × List ℕ
  stored = exported b.records b.names m

  abbrev done : EntryResult
  done = (number stored.0, (v.0, counted stored.0 v.1 z.1), stored.1, stored.2)

  is_done : done ≡ after (Ok tt)
  is_done = sym (record_added-done at base size auto s b.records b.names)

  -- whether the module fits, told from records and names alone
  abbrev fitting : Bool
  fitting = fits R N (register_in b.records b.names) m

  fitting_is : {t : Bool} → fitting ≡ t → fits R N r m ≡ t
  fitting_is e = sym (fits_in_lem b.records b.names b.missing m R N) ∙ e

  -- reading the record writes nothing
  unwritten : z.0 ≡ v.0
  unwritten = (reads_run_t at (read_module base size auto) v (read_module_reads base size auto)).1

  done_now : (t : Bool) → fitting ≡ t → done.0 ≡ 0 → RecordAdded (Ok tt) done.1 done.2 done.3
  unfolding number exported register_after counted
  done_now true e o =
      record {
        rebased = refl;
        reset = refl;
        fit = fitting_is e;
        same = λ next. add_record-done at base size auto s R N r next ∙ rw (fitting_is e, e, ← unwritten);
        records_now = rw e (records_in b.records b.names b.missing m R);
        names_now = rw e (names_in b.records b.names b.missing m N);
      }
  done_now false e o = let y : done.0 ≡ 5 = rw e in absurd (omega arith)

  pub in_now : (x : Rebased) → (after x).0 ≡ 0 → RecordAdded x (after x).1 (after x).2 (after x).3
  unfolding record_added add_record run_t number
  in_now (Err RebaseError.NotACro) o = absurd (omega arith)
  in_now (Err RebaseError.BadSegment) o = absurd (omega arith)
  in_now (Ok _) o =
      subst (λ (y : EntryResult). y.0 ≡ 0 → RecordAdded (Ok tt) y.1 y.2 y.3) is_done (done_now fitting refl) o

  module _ (next : Module → Prog Answer) where
    abbrev entry : Rebased → Answer × State
    entry x = run_t at (add_record R N r base size auto next x) s

    abbrev EntryLeaves : EntryResult → Rebased → Type 0
    EntryLeaves y x =
        ◌≡◌ {A = Outcome × List ℕ} (outcome y.0 0 (buffers y.1.0 y.2 y.3 b.missing), y.1.1)
        (outcome_of b ((entry x).0, (entry x).1.0), counted (entry x).0 (run_t at (reset_rebased base x) s).1.1 (entry x).1.1)

    not_done : (t : Bool) → fitting ≡ t → (done.0 ≢ 0) → EntryLeaves done (Ok tt)
    unfolding number value exported register_after outcome_of run_t counted reset_rebased
    not_done true e n = absurd (n (rw e))
    not_done false e n = rw (add_record-done at base size auto s R N r next, fitting_is e, e, unwritten)

    pub not_now : (x : Rebased) → ((after x).0 ≢ 0) → EntryLeaves (after x) x
    unfolding record_added add_record outcome_of number value register_after run_t counted
    not_now (Err RebaseError.NotACro) n = refl
    not_now (Err RebaseError.BadSegment) n = refl
    not_now (Ok _) n =
        subst (λ (y : EntryResult). (y.0 ≢ 0) → EntryLeaves y (Ok tt)) is_done (not_done fitting refl) n

pub clear_list_fields_is
    : (at base : ℕ) (s : State) {u v : State} → u ≡ (run_t at (set_field base next_cro 0) s).1 → v ≡ (run_t at (set_field base previous_cro 0) u).1
    → v ≡ (run_t at (clear_list_fields base) s).1
unfolding clear_list_fields
clear_list_fields_is at base s e f = two at (set_field base next_cro 0) s (set_field base previous_cro 0) e f
