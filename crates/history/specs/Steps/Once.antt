-- "No module or export name comes twice": only one of the modules that stand exports to an import.
use Rattle.std.specs.Prelude.{ℕ, ◌+◌, ◌≤◌, ◌<◌, ◌≡◌, refl, ◌≢◌, ◌⊎◌}
use Rattle.std.proofs.Common.{inl, inr, arith}
use Rattle.std.proofs.Math.Decide.{ℕ_discrete}
use Rattle.history.specs.Image.{module_entries, count, entry, module_name}
use Rattle.history.specs.LoadedModule.{Image, base_of}
use Rattle.history.specs.Imports.{Import, named, indexed, anonymous, import_table, import_entry, IsImport, run_start, run_count, InRun, From, Exports}
use Rattle.history.specs.WellLaid.{WellLaid}
use Rattle.history.specs.Demand3.{OtherExports}
use Rattle.history.specs.Steps.AllModulesShow.{Modules}
use Rattle.history.specs.Steps.LinksResolved.{same_name}

-- no base is 0, no module's name comes twice, nor an export's in two modules
pub record Unlike (C : Modules) : Type 0 where
  pub nonzero : (k : ℕ) → k < C.number → base_of (C.image k).load_call ≢ 0
  pub names : (j k : ℕ) → j < C.number → k < C.number → module_name (C.image j).file ≡ module_name (C.image k).file → j ≡ k
  pub exports : (j k : ℕ) → j < C.number → k < C.number → j ≢ k → OtherExports (C.image j) (C.image k)

module _ (m : Image) (laid : WellLaid m) where
  abbrev F : ℕ → ℕ
  F = m.file

  width : (i : Import) → (import_table i).width ≡ 8
  width (named i) = refl
  width (indexed i) = refl
  width (anonymous i) = refl

  -- what lies in a run is an import: runs lie in the table
  run_import : (j : ℕ) → j < count F module_entries → (i : Import) → InRun F j i → IsImport F i
  unfolding InRun import_entry entry
  run_import j l i (k, g, e) = go (laid.alone.runs j l i)
    where
      go : (run_count F j i ≡ 0)
          ⊎ ((c : ℕ) × (run_start F j i ≡ entry F (import_table i) c) × (c + run_count F j i ≤ count F (import_table i))) → IsImport F i
      go (inl z) = absurd (omega (arith, g, z))
      go (inr (c, z, h)) = omega (arith, g, rw (width i) at e, rw (width i) at z, h)

  module _ (n : ℕ) (x : ℕ → Image) (names : (j k : ℕ) → j < n → k < n → module_name (x j).file ≡ module_name (x k).file → j ≡ k)
      (exports : (j k : ℕ) → j < n → k < n → j ≢ k → OtherExports (x j) (x k)) where
    pub once : (i : Import) (j k p q : ℕ) → j < n → k < n → Exports (x j) m i p → Exports (x k) m i q → j ≡ k
    unfolding Exports OtherExports From
    once (named i) j k p q l g h r = elim (ℕ_discrete j k) [ yes e ↦ e | no o ↦ absurd (exports j k l g o _ p q h r) ]
    once (indexed i) j k p q l g h r =
        names j k l g (same_name m laid (indexed i) (run_import h.0.0 h.0.1 (indexed i) h.0.2) _ _ h.0 r.0)
    once (anonymous i) j k p q l g h r =
        names j k l g (same_name m laid (anonymous i) (run_import h.0.0 h.0.1 (anonymous i) h.0.2) _ _ h.0 r.0)
