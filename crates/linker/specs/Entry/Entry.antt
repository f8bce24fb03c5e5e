-- A module's entry into the register.
use Rattle.std.specs.Prelude.{if◌then◌else◌, ◌≡◌, ℕ, Bool, true, false, List, length, Ok}
use Rattle.std.proofs.Math.Path.{refl}
use Rattle.std.proofs.Common.{◌∙◌}
use Rattle.window.specs.Access.{Prog, ret}
use Rattle.window.specs.Trace.{State, run_t, run_t_bind}
use Rattle.window.specs.Silent.{reads_run_t}
use Rattle.register.specs.Module.{Module, Register}
use Rattle.register.specs.Change.{appended}
use Rattle.linker_spec.specs.Refusal.{Rebased}
use Rattle.linker_spec.specs.Relocation.{reset_external_relocations}
use Rattle.linker_spec.specs.Exports.{read_module, read_module_reads}
use Rattle.linker_spec.specs.Calls.{Answer, Done, number, fits, add_record, Refused}
use Rattle.linker_spec.specs.Touches.{reset_rebased, counted}
use Rattle.linker_spec.specs.declared.refusal.Refusal.TheVariants.{NoRoom}
use Rattle.linker.specs.Exports.Exported.{register_in, left_by, exported}

-- the module has its record, and nothing more is done with it yet
unfoldable pub recorded : Register → Module → Prog Answer
recorded r m = ret (Done 0 (appended r m))

-- the number, the window and trace, records and names that an entry leaves
abbrev pub EntryResult : Type 0
EntryResult = ℕ × State × List ℕ × List ℕ

-- the number, window and trace, the records and the names after a rebase that ended so: 0 where the module has its record;
-- with 5 the trace is that of the external reset
unfoldable pub record_added : (at : ℕ) → List ℕ → List ℕ → (base size : ℕ) → Bool → Rebased → State → EntryResult
record_added at records names base size auto rebased s =
    let r = register_in records names in
    let x = run_t at (add_record (length records) (length names) r base size auto (recorded r) rebased) s in (
      number x.0,
      (x.1.0, counted x.0 (run_t at (reset_rebased base rebased) s).1.1 x.1.1),
      (left_by records names x.0).records,
      (left_by records names x.0).names,
    )

-- after a rebase that is done: the record is read after the external reset, and reading writes nothing
module _ (at base size : ℕ) (auto : Bool) (s : State) where
  abbrev v : State
  v = (run_t at (reset_external_relocations base) s).1

  abbrev m : Module
  m = (run_t at (read_module base size auto) v).0

  abbrev z : State
  z = (run_t at (read_module base size auto) v).1

  pub add_record-done
      : (records names : ℕ) (r : Register) (next : Module → Prog Answer)
      → run_t at (add_record records names r base size auto next (Ok tt)) s ≡ run_t at (if fits records names r m then next m else ret (Refused NoRoom)) z
  unfolding add_record
  add_record-done records names r next =
      run_t_bind at (reset_external_relocations base) _ s ∙ run_t_bind at (read_module base size auto) _ v

  pub record_added-done
      : (records names : List ℕ)
      → record_added at records names base size auto (Ok tt) s
      ≡ (number (exported records names m).0, (v.0, counted (exported records names m).0 v.1 z.1), (exported records names m).1, (exported records names m).2)
  unfolding record_added exported recorded run_t reset_rebased
  record_added-done records names =
      rw (add_record-done (length records) (length names) (register_in records names) (recorded (register_in records names)), ← (reads_run_t at (read_module base size auto) v (read_module_reads base size auto)).1)
      (go (fits (length records) (length names) (register_in records names) m))
    where
      go
          : (t : Bool) → let r = register_in records names in
          let x = run_t at (if t then recorded r m else ret (Refused NoRoom)) z in
          let a = if t then Done 0 (appended r m) else Refused NoRoom in
          ◌≡◌ {A = ℕ × State × List ℕ × List ℕ}
          (number x.0, (x.1.0, counted x.0 v.1 x.1.1), (left_by records names x.0).records, (left_by records names x.0).names)
          (number a, (z.0, counted a v.1 z.1), (left_by records names a).records, (left_by records names a).names)
      go true = refl
      go false = refl
