-- From the code's calls and branches to the programs of `Resets`.
use Rattle.std.specs.Prelude.{if◌then◌else◌, Option, Some, None}
use Rattle.std.proofs.Common.{◌≡◌, ℕ, Bool, true, false, List, [], sym, refl, ap, ◌∙◌, arith, eq-eqb, ne_eqb}
use Rattle.window.specs.Memory.{◌⊕◌}
use Rattle.window.specs.Access.{Prog, ret, ◌>>=◌, ◌>>◌, get32}
use Rattle.window.specs.Loop.{loop}
use Rattle.window.specs.Trace.{State, run_t}
use Rattle.window.specs.TraceRuns.{left, given, gives, seq, then_it, two}
use Rattle.window.specs.Outside.{Idle, first_read, part_read, name-outside}
use Rattle.window.specs.Name.{name_at}
use Rattle.layout.specs.Header.{import_named_symbol_table_offset, import_named_symbol_num, import_named_symbol_entry_size, import_module_table_offset, import_module_num, import_module_entry_size, import_indexed_symbol_entry_size}
use Rattle.layout.specs.Segments.{field, entry_at}
use Rattle.layout.proofs.Accesses.{read_there}
use Rattle.register.specs.Words.{same}
use Rattle.register.specs.Module.{Module}
use Rattle.register.specs.Read.Read.{export_of}
use Rattle.linker_spec.specs.Relocation.{unresolved_symbol, apply_relocation_batch, batch_is_resolved}
use Rattle.linker_spec.specs.Resets.{reset, reset_at, exists, reset_named, reset_module, reset_imports}
use Rattle.linker.specs.declared.sources.source.ModuleTables.{ModuleTables}
use Rattle.linker.specs.Sources.Source.{tables_of}
use Rattle.linker.specs.Resets.Tables.{reset_table, reset_all_named, reset_all_modules}
use Rattle.linker.proofs.sources.Laws.{tables-outside}

-- one batch

module _ (at base handler batch : ℕ) (s : State) where
  pub reset_none : batch ≡ 0 → s ≡ (run_t at (reset base handler batch) s).1
  unfolding reset run_t
  reset_none e = rw (eq-eqb batch 0 e, run_t)

  module _ (n : batch ≡ 0 → ⊥) {t : Bool} {s₁ : State} (et : (t, s₁) ≡ run_t at (batch_is_resolved batch) s) where
    abbrev turned : Bool → Prog (Unit {0})
    turned b = if b then apply_relocation_batch base batch handler false >> ret tt else ret tt

    reset_is : run_t at (reset base handler batch) s ≡ run_t at (turned t) s₁
    unfolding reset
    reset_is = rw (ne_eqb batch 0 n) (sym (gives at (batch_is_resolved batch) s turned et))

    pub reset-left : t ≡ false → s₁ ≡ (run_t at (reset base handler batch) s).1
    unfolding run_t
    reset-left e = rw (reset_is, e, run_t)

    pub reset_made
        : {k : ℕ} {v : State} → t ≡ true → (k, v) ≡ run_t at (apply_relocation_batch base batch handler false) s₁ → v ≡ (run_t at (reset base handler batch) s).1
    unfolding run_t
    reset_made e h = rw (reset_is, e) (ap left (seq at (apply_relocation_batch base batch handler false) s₁ (ret tt) (ap left h)))

-- the batch of an entry

module _ (at base handler entry : ℕ) (s : State) where
  pub reset-entry
      : {y batch : ℕ} {s₁ v : State} → y ≡ entry ⊕ 4 → (batch, s₁) ≡ run_t at (get32 y) s → v ≡ (run_t at (reset base handler batch) s₁).1
      → v ≡ (run_t at (reset_at base handler entry) s).1
  unfolding reset_at
  reset-entry y b h = then_it at (get32 (entry ⊕ 4)) s (reset base handler) (read_there at s y b) h

  -- a name, and what is done with it
  module _ {p : ℕ} {s₁ : State} (ep : (p, s₁) ≡ run_t at (get32 entry) s) {s₂ : State} (en : s₂ ≡ (run_t at (name_at p) s₁).1) where
    abbrev name : List ℕ
    name = (run_t at (name_at p) s₁).0

    named : (f : List ℕ → Prog (Unit {0})) → run_t at (get32 entry >>= λ p. name_at p >>= f) s ≡ run_t at (f name) s₂
    named f = sym (gives at (name_at p) s₁ f {a = name} (ap (λ u. (name, u)) en) ∙ gives at (get32 entry) s (λ p. name_at p >>= f) ep)

    module _ (gone : Module) where
      module _ {x : Option ℕ} (ex : x ≡ export_of gone name) where
        named_is : run_t at (reset_named gone base handler entry) s ≡ run_t at (if exists x then reset_at base handler entry else ret tt) s₂
        unfolding reset_named
        named_is = rw ex (named (λ n. if exists (export_of gone n) then reset_at base handler entry else ret tt))

        pub named_kept : x ≡ None → s₂ ≡ (run_t at (reset_named gone base handler entry) s).1
        unfolding run_t
        named_kept e = rw (named_is, e, run_t)

        pub named-reset
            : {a : ℕ} {v : State} → x ≡ Some a → v ≡ (run_t at (reset_at base handler entry) s₂).1 → v ≡ (run_t at (reset_named gone base handler entry) s).1
        named-reset e h = rw (named_is, e) h

      module _ {t : Bool} {own : List ℕ} (eo : own ≡ gone.name) (et : t ≡ same name own) where
        abbrev tables : ModuleTables → Prog (Unit {0})
        tables x = reset_table base handler x.indexed_table x.indexed_count >> reset_table base handler x.anonymous_table x.anonymous_count

        module_is : run_t at (reset_module gone base handler entry) s ≡ run_t at (if t then (tables_of entry >>= tables) else ret tt) s₂
        unfolding reset_module reset_table tables_of ◌>>=◌
        module_is = rw (et, eo) (named (λ n. if same n gone.name then (tables_of entry >>= tables) else ret tt))

        pub module_kept : t ≡ false → s₂ ≡ (run_t at (reset_module gone base handler entry) s).1
        unfolding run_t
        module_kept e = rw (module_is, e, run_t)

        pub module_reset
            : {x : ModuleTables} {s₃ u v : State} → t ≡ true → (x, s₃) ≡ run_t at (tables_of entry) s₂
            → u ≡ (run_t at (reset_table base handler x.indexed_table x.indexed_count) s₃).1
            → v ≡ (run_t at (reset_table base handler x.anonymous_table x.anonymous_count) u).1
            → v ≡ (run_t at (reset_module gone base handler entry) s).1
        module_reset {x} {s₃} e ex h g = rw (module_is, e) (then_it at (tables_of entry) s₂ tables ex (two at _ s₃ _ h g))

-- the loops, and both halves

module _ (at base handler : ℕ) (s : State) where
  module _ (gone : Module) {table count : ℕ} {s₁ s₂ : State} where
    pub named_start
        : (table, s₁) ≡ run_t at (field base import_named_symbol_table_offset) s → (count, s₂) ≡ run_t at (field base import_named_symbol_num) s₁
        → run_t at (loop (λ i _. reset_named gone base handler (entry_at table i import_named_symbol_entry_size)) 0 count tt) s₂
        ≡ run_t at (reset_all_named gone base handler) s
    unfolding reset_all_named
    named_start t n = gives at (field base import_named_symbol_num) s₁ _ n ∙ gives at (field base import_named_symbol_table_offset) s _ t

    pub modules_start
        : (table, s₁) ≡ run_t at (field base import_module_table_offset) s → (count, s₂) ≡ run_t at (field base import_module_num) s₁
        → run_t at (loop (λ i _. reset_module gone base handler (entry_at table i import_module_entry_size)) 0 count tt) s₂
        ≡ run_t at (reset_all_modules gone base handler) s
    unfolding reset_all_modules
    modules_start t n = gives at (field base import_module_num) s₁ _ n ∙ gives at (field base import_module_table_offset) s _ t

module _ (at base : ℕ) (s : State) (gone : Module) where
  abbrev halves : ℕ → Prog (Unit {0})
  halves k = reset_all_named gone base k >> reset_all_modules gone base k

  imports_are : reset_imports gone base ≡ (unresolved_symbol base >>= halves)
  unfolding reset_imports reset_all_named reset_all_modules field ◌>>=◌
  imports_are = refl

  pub both_reset
      : {handler : ℕ} {s₁ u v : State} → (handler, s₁) ≡ run_t at (unresolved_symbol base) s → u ≡ (run_t at (reset_all_named gone base handler) s₁).1
      → v ≡ (run_t at (reset_all_modules gone base handler) u).1 → v ≡ (run_t at (reset_imports gone base) s).1
  both_reset {handler} {s₁} e h g =
      rw imports_are
      (then_it at (unresolved_symbol base) s halves e (two at (reset_all_named gone base handler) s₁ (reset_all_modules gone base handler) h g))

-- once a touch is kept, entries wholly outside have no batch to reset

pub at-idle : (at base handler : ℕ) → Idle at (reset_at base handler) import_indexed_symbol_entry_size
at-idle at base handler w t kept x out =
    reset-entry at base handler x (w, t) refl (part_read at w t kept x import_indexed_symbol_entry_size out 4 (omega arith))
    (reset_none at base handler 0 (w, t) refl)

pub named-idle : (at base handler : ℕ) (gone : Module) → Idle at (reset_named gone base handler) import_named_symbol_entry_size
unfolding reset_named
named-idle at base handler gone w t kept x out =
    then_it at (get32 x) (w, t) _ (first_read at w t kept x import_named_symbol_entry_size out (omega arith))
    (then_it at (name_at 0) (w, t) (λ name. if exists (export_of gone name) then reset_at base handler x else ret tt) (name-outside at (w, t))
    (by_export (exists (export_of gone []))))
  where
    by_export : (b : Bool) → (w, t) ≡ (run_t at (if b then reset_at base handler x else ret tt) (w, t)).1
    by_export true = at-idle at base handler w t kept x out
    by_export false = ap left (given at tt (w, t))

no_resets : (at base handler : ℕ) (s : State) → s ≡ (run_t at (reset_table base handler 0 0) s).1
unfolding reset_table loop run_t
no_resets at base handler s = refl

pub module_idle : (at base handler : ℕ) (gone : Module) → Idle at (reset_module gone base handler) import_module_entry_size
module_idle at base handler gone w t kept x out = by_name _ refl
  where
    s : State
    s = (w, t)

    p : (0, s) ≡ run_t at (get32 x) s
    p = first_read at w t kept x import_module_entry_size out (omega arith)

    n : s ≡ (run_t at (name_at 0) s).1
    n = ap left (name-outside at s)

    by_name : (b : Bool) → same (run_t at (name_at 0) s).0 gone.name ≡ b → s ≡ (run_t at (reset_module gone base handler x) s).1
    by_name true e =
        module_reset at base handler x s p n gone refl refl e (tables-outside at w t kept x out) (no_resets at base handler s) (no_resets at base handler s)
    by_name false e = module_kept at base handler x s p n gone refl refl e
