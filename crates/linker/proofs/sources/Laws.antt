-- From the code's calls and branches to the programs of `Imports` for one batch, one import and the imports of an entry.
use Rattle.std.specs.Prelude.{if◌then◌else◌, Option, Some, None}
use Rattle.std.proofs.Common.{◌≡◌, ℕ, Bool, true, false, not, List, length, take, refl, ap, ◌∙◌, arith, eq-eqb, ne_eqb}
use Rattle.window.specs.Memory.{◌⊕◌}
use Rattle.window.specs.Access.{ret, ◌>>=◌, get32}
use Rattle.window.specs.Trace.{State, said, run_t}
use Rattle.window.specs.TraceRuns.{given, gives, then_it, two, on_true, on_false}
use Rattle.window.specs.Outside.{AllOutside, Idle, first_read, part_read}
use Rattle.window.specs.Loop.{loop}
use Rattle.window.specs.Name.{name_at, laid_over, name_is}
use Rattle.layout.specs.Header.{import_indexed_symbol_entry_size, import_module_entry_size}
use Rattle.layout.specs.Format.{tag_segment, tag_offset}
use Rattle.register.specs.Module.{Module}
use Rattle.register.specs.Read.Read.{entry_of}
use Rattle.linker_spec.specs.Relocation.{batch_is_resolved}
use Rattle.linker_spec.specs.Imports.{anonymous_of, is_unresolved, resolve, import_from, link_from, imports_of}
use Rattle.layout.proofs.Accesses.{read_there}
use Rattle.linker.specs.Sources.Source.{symbol_of, import_table, tables_of, link_tables}
use Rattle.linker.specs.Sources.Laws.{tables-linked}
use Rattle.linker.specs.declared.sources.source.ImportTable.{ImportTable}
use Rattle.linker.specs.declared.sources.source.ImportTable.TheVariants.{Indexed, Anonymous}
use Rattle.linker.specs.declared.sources.source.ModuleTables.{ModuleTables}

-- what is made of a name's bytes in a buffer is made of the name
pub name_made
    : {A : Type 0} (f : List ℕ → A) (at address : ℕ) (s : State) (old : List ℕ) {r : A} {n : ℕ} {buffer : List ℕ} → r ≡ f (take n buffer)
    → (n, buffer) ≡ laid_over (run_t at (name_at address) s).0 old → r ≡ f (run_t at (name_at address) s).0
name_made f at address s old h e = h ∙ ap f (name_is (run_t at (name_at address) s).0 old e)

-- a batch that waits

turned : (b : Bool) → not b ≡ (if b then false else true)
turned true = refl
turned false = refl

module _ (at batch : ℕ) (s : State) where
  pub no_batch : batch ≡ 0 → (false, s) ≡ run_t at (is_unresolved batch) s
  unfolding is_unresolved
  no_batch e = on_true at s (ret false) _ (eq-eqb batch 0 e) (given at false s)

  pub batch-waits : {r : Bool} {u : State} → (batch ≡ 0 → ⊥) → (r, u) ≡ run_t at (batch_is_resolved batch) s → (not r, u) ≡ run_t at (is_unresolved batch) s
  unfolding is_unresolved
  batch-waits {r} {u} n e =
      on_false at s (ret false) _ (ne_eqb batch 0 n)
      (ap (λ b. (b, u)) (turned r) ∙ given at (if r then false else true) u
      ∙ gives at (batch_is_resolved batch) s (λ b. ret (if b then false else true)) e)

-- imports by index and by tag

pub anonymous_none
    : (m : Module) (tag : ℕ) {n : ℕ} {s : Option ℕ} → n ≡ tag_segment tag → s ≡ entry_of m.segments n → s ≡ None → None ≡ anonymous_of m tag
unfolding anonymous_of
anonymous_none m tag e f g = rw (← e, ← f, g)

pub anonymous_some
    : (m : Module) (tag : ℕ) {n o a x : ℕ} {s : Option ℕ} → n ≡ tag_segment tag → s ≡ entry_of m.segments n → s ≡ Some a → o ≡ tag_offset tag → x ≡ a ⊕ o
    → Some x ≡ anonymous_of m tag
unfolding anonymous_of
anonymous_some m tag e f g o x = rw (x, o, ← e, ← f, g)

pub symbol_indexed : (m : Module) (x : ℕ) {k : ImportTable} {s : Option ℕ} → k ≡ Indexed → s ≡ entry_of m.indexed x → s ≡ symbol_of k m x
unfolding symbol_of
symbol_indexed m x e f = rw (e, symbol_of) f

pub symbol_anonymous : (m : Module) (x : ℕ) {k : ImportTable} {s : Option ℕ} → k ≡ Anonymous → s ≡ anonymous_of m x → s ≡ symbol_of k m x
unfolding symbol_of
symbol_anonymous m x e f = rw (e, symbol_of) f

module _ (at base entry : ℕ) (symbol : ℕ → Option ℕ) (s : State) {x batch y : ℕ} {t : Bool} {s₁ s₂ s₃ : State} (h₁ : (x, s₁) ≡ run_t at (get32 entry) s)
    (ey : y ≡ entry ⊕ 4) (h₂ : (batch, s₂) ≡ run_t at (get32 y) s₁) (h₃ : (t, s₃) ≡ run_t at (is_unresolved batch) s₂) where
  from_is : {v : State} → v ≡ (run_t at (if t then resolve base batch (symbol x) else ret tt) s₃).1 → v ≡ (run_t at (import_from symbol base entry) s).1
  unfolding import_from
  from_is h =
      then_it at (get32 entry) s _ h₁
      (then_it at (get32 (entry ⊕ 4)) s₁ _ (read_there at s₁ ey h₂)
      (then_it at (is_unresolved batch) s₂ (λ t. if t then resolve base batch (symbol x) else ret tt) h₃ h))

  pub from-waits
      : {z : Option ℕ} {v : State} → t ≡ true → z ≡ symbol x → v ≡ (run_t at (resolve base batch z) s₃).1
      → v ≡ (run_t at (import_from symbol base entry) s).1
  from-waits e f h = from_is (rw (e, ← f) h)

  pub from-passed : t ≡ false → s₃ ≡ (run_t at (import_from symbol base entry) s).1
  unfolding run_t
  from-passed e = from_is (rw (e, run_t))

-- a module entry's four words, and its two tables

pub tables_read
    : (at entry : ℕ) (s : State) {x₁ x₂ x₃ x₄ indexed n anonymous m : ℕ} {s₁ s₂ s₃ s₄ : State} → x₁ ≡ entry ⊕ 4 → (indexed, s₁) ≡ run_t at (get32 x₁) s
    → x₂ ≡ entry ⊕ 8 → (n, s₂) ≡ run_t at (get32 x₂) s₁ → x₃ ≡ entry ⊕ 12 → (anonymous, s₃) ≡ run_t at (get32 x₃) s₂ → x₄ ≡ entry ⊕ 16
    → (m, s₄) ≡ run_t at (get32 x₄) s₃
    → (record { indexed_table = indexed; indexed_count = n; anonymous_table = anonymous; anonymous_count = m }, s₄) ≡ run_t at (tables_of entry) s
unfolding tables_of
tables_read at entry s {indexed = indexed} {n} {anonymous} {m} {s₁} {s₂} {s₃} {s₄} p₁ h₁ p₂ h₂ p₃ h₃ p₄ h₄ =
    given at (record { indexed_table = indexed; indexed_count = n; anonymous_table = anonymous; anonymous_count = m }) s₄
    ∙ gives at (get32 (entry ⊕ 16)) s₃ _ (read_there at s₃ p₄ h₄)
    ∙ gives at (get32 (entry ⊕ 12)) s₂ _ (read_there at s₂ p₃ h₃)
    ∙ gives at (get32 (entry ⊕ 8)) s₁ _ (read_there at s₁ p₂ h₂)
    ∙ gives at (get32 (entry ⊕ 4)) s _ (read_there at s p₁ h₁)

pub tables_made
    : (at base : ℕ) (source : Module) (t : ModuleTables) (s : State) {u v : State}
    → u ≡ (run_t at (import_table Indexed source base t.indexed_table t.indexed_count) s).1
    → v ≡ (run_t at (import_table Anonymous source base t.anonymous_table t.anonymous_count) u).1
    → v ≡ (run_t at (link_tables (Some source) base t) s).1
unfolding link_from import_table symbol_of
tables_made at base source t s h g =
    two at (import_table Indexed source base t.indexed_table t.indexed_count) s
    (import_table Anonymous source base t.anonymous_table t.anonymous_count) h g

-- once a touch is kept, an import wholly outside has no batch, and a module entry no imports

pub from-idle : (at base : ℕ) (symbol : ℕ → Option ℕ) → Idle at (import_from symbol base) import_indexed_symbol_entry_size
from-idle at base symbol w t kept x out =
    from-passed at base x symbol (w, t) (first_read at w t kept x import_indexed_symbol_entry_size out (omega arith)) refl
    (part_read at w t kept x import_indexed_symbol_entry_size out 4 (omega arith)) (no_batch at 0 (w, t) refl) refl

abbrev pub no_tables : ModuleTables
no_tables = record { indexed_table = 0; indexed_count = 0; anonymous_table = 0; anonymous_count = 0 }

pub tables-outside
    : (at : ℕ) (w t : List ℕ) → said t ≡ true → (x : ℕ) → AllOutside at (length w) x import_module_entry_size → (no_tables, (w, t)) ≡ run_t at (tables_of x) (w, t)
tables-outside at w t kept x out =
    tables_read at x (w, t) refl (part_read at w t kept x import_module_entry_size out 4 (omega arith)) refl
    (part_read at w t kept x import_module_entry_size out 8 (omega arith)) refl (part_read at w t kept x import_module_entry_size out 12 (omega arith)) refl
    (part_read at w t kept x import_module_entry_size out 16 (omega arith))

none_linked : (at base : ℕ) (source : Option Module) (s : State) → s ≡ (run_t at (link_tables source base no_tables) s).1
unfolding link_from loop run_t ◌>>=◌
none_linked at base None s = refl
none_linked at base (Some source) s = refl

pub entry-idle : (at base : ℕ) (source : Option Module) → Idle at (imports_of source base) import_module_entry_size
entry-idle at base source w t kept x out =
    tables-linked at base x source (w, t) (tables-outside at w t kept x out) (none_linked at base source (w, t))
