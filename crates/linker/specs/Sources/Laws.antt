-- A batch with or without its symbol, and a module entry's imports once its words are read.
use Rattle.std.specs.Prelude.{◌≡◌, ℕ, true, Option, Some, None}
use Rattle.std.proofs.Common.{ap}
use Rattle.window.specs.Access.{Prog, ret, ◌>>=◌}
use Rattle.window.specs.Trace.{State, run_t}
use Rattle.window.specs.TraceRuns.{left, gives, then_it}
use Rattle.register.specs.Module.{Module}
use Rattle.linker_spec.specs.Relocation.{apply_relocation_batch}
use Rattle.linker_spec.specs.Imports.{resolve, imports_of}
use Rattle.linker.specs.Sources.Source.{tables_of, link_tables}
use Rattle.linker.specs.declared.sources.source.ModuleTables.{ModuleTables}

-- what a program gives beside the state that it leaves
pub paired : {A : Type 0} (at : ℕ) (m : Prog A) (s : State) {u : State} → u ≡ (run_t at m s).1 → ((run_t at m s).0, u) ≡ run_t at m s
paired at m s e = ap (λ u. ((run_t at m s).0, u)) e

-- a symbol for a batch

module _ (at base batch : ℕ) (s : State) {symbol : Option ℕ} where
  pub unresolved_stays : symbol ≡ None → s ≡ (run_t at (resolve base batch symbol) s).1
  unfolding resolve run_t
  unresolved_stays e = rw (e, resolve, run_t)

  pub resolved_by
      : {a n : ℕ} {v : State} → symbol ≡ Some a → (n, v) ≡ run_t at (apply_relocation_batch base batch a true) s
      → v ≡ (run_t at (resolve base batch symbol) s).1
  unfolding resolve run_t
  resolved_by {a = a} e h = rw (e, resolve) (ap left (gives at (apply_relocation_batch base batch a true) s (λ _. ret tt) h))

-- both tables of a module entry
pub tables-linked
    : (at base entry : ℕ) (source : Option Module) (s : State) {tables : ModuleTables} {u v : State} → (tables, u) ≡ run_t at (tables_of entry) s
    → v ≡ (run_t at (link_tables source base tables) u).1 → v ≡ (run_t at (imports_of source base entry) s).1
unfolding imports_of tables_of ◌>>=◌
tables-linked at base entry source s h g = then_it at (tables_of entry) s (link_tables source base) h g
