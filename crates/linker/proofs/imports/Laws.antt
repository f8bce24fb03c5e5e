-- From the code's calls and branches to the programs of `Imports`.
use Rattle.std.specs.Prelude.{if◌then◌else◌, Option, Some, None}
use Rattle.std.proofs.Common.{◌≡◌, ℕ, ◌+◌, Bool, true, false, List, [], ◌∷◌, ◌++◌, sym, refl, ap, ◌∙◌, arith}
use Rattle.window.specs.Memory.{◌⊕◌}
use Rattle.window.specs.Access.{Prog, ret, ◌>>=◌, get32}
use Rattle.window.specs.Trace.{State, run_t}
use Rattle.window.specs.TraceRuns.{left, given, gives, then_it, two}
use Rattle.window.specs.Outside.{Idle, first_read, part_read, name-outside}
use Rattle.window.specs.Loop.{loop}
use Rattle.window.specs.Name.{name_at}
use Rattle.layout.specs.Header.{import_named_symbol_entry_size, import_module_entry_size}
use Rattle.layout.specs.Segments.{field}
use Rattle.register.specs.Words.{same}
use Rattle.register.specs.Module.{Module}
use Rattle.register.specs.Read.Encoded.{first-placed}
use Rattle.register.specs.Read.Read.{Encoded, modules_of, module_bytes, place_from, has_name, export_of, module_at}
use Rattle.linker_spec.specs.Imports.{is_unresolved, resolve, link_from, imports_of, module_by_name, import_module, serve_named, serve_module, serve}
use Rattle.linker.specs.Sources.Source.{tables_of, link_tables}
use Rattle.linker.specs.declared.sources.source.ModuleTables.{ModuleTables}
use Rattle.layout.proofs.Accesses.{read_there}
use Rattle.linker.specs.Sources.Laws.{paired, tables-linked}
use Rattle.linker.specs.Imports.Served.{serve_all_named, serve_all_modules}
use Rattle.linker.proofs.sources.Laws.{no_batch, entry-idle}

-- a table's place and count read, then the loop over its entries
pub table_starts
    : {A : Type 0} (at base x y : ℕ) (turn : ℕ → ℕ → A → Prog A) (a : A) (s : State) {table count : ℕ} {s₁ s₂ : State}
    → (table, s₁) ≡ run_t at (field base x) s → (count, s₂) ≡ run_t at (field base y) s₁
    → run_t at (loop (turn table) 0 count a) s₂ ≡ run_t at (field base x >>= λ table. field base y >>= λ count. loop (turn table) 0 count a) s
table_starts at base x y turn a s {table} {s₁ = s₁} h₁ h₂ =
    gives at (field base y) s₁ (λ count. loop (turn table) 0 count a) h₂
    ∙ gives at (field base x) s (λ table. field base y >>= λ count. loop (turn table) 0 count a) h₁

-- the imports of the modules that stand

module _ (at base entry : ℕ) (new : Module) (s : State) {y batch : ℕ} {t : Bool} {s₁ s₂ : State} (ey : y ≡ entry ⊕ 4)
    (h₁ : (batch, s₁) ≡ run_t at (get32 y) s) (h₂ : (t, s₂) ≡ run_t at (is_unresolved batch) s₁) where
  serve_is
      : {v : State}
      → v ≡ (run_t at (if t then (get32 entry >>= λ p. name_at p >>= λ name. resolve base batch (export_of new name)) else ret tt) s₂).1
      → v ≡ (run_t at (serve_named new base entry) s).1
  unfolding serve_named
  serve_is h =
      then_it at (get32 (entry ⊕ 4)) s _ (read_there at s ey h₁)
      (then_it at (is_unresolved batch) s₁
      (λ t. if t then (get32 entry >>= λ p. name_at p >>= λ name. resolve base batch (export_of new name)) else ret tt) h₂ h)

  pub serve-waits
      : {p : ℕ} {z : Option ℕ} {s₃ s₄ v : State} → t ≡ true → (p, s₃) ≡ run_t at (get32 entry) s₂
      → (z ≡ export_of new (run_t at (name_at p) s₃).0) × (s₄ ≡ (run_t at (name_at p) s₃).1) → v ≡ (run_t at (resolve base batch z) s₄).1
      → v ≡ (run_t at (serve_named new base entry) s).1
  serve-waits {p} {s₃ = s₃} e h₃ h₄ g =
      let q : (name : List ℕ) → Prog (Unit {0}) = λ name. resolve base batch (export_of new name) in
      serve_is
      (rw e
      (then_it at (get32 entry) s₂ (λ p. name_at p >>= q) h₃
      (then_it at (name_at p) s₃ q (paired at (name_at p) s₃ h₄.1) (rw (← h₄.0) g))))

  pub serve-passed : t ≡ false → s₂ ≡ (run_t at (serve_named new base entry) s).1
  unfolding run_t
  serve-passed e = serve_is (rw (e, run_t))

module _ (at base entry : ℕ) (new : Module) (s : State) {p : ℕ} {t : Bool} {name : List ℕ} {s₁ s₂ : State} (h₁ : (p, s₁) ≡ run_t at (get32 entry) s)
    (en : name ≡ new.name) (h₂ : (t ≡ same (run_t at (name_at p) s₁).0 name) × (s₂ ≡ (run_t at (name_at p) s₁).1)) where
  entry_is
      : {v : State} → v ≡ (run_t at (if t then imports_of (Some new) base entry else ret tt) s₂).1 → v ≡ (run_t at (serve_module new base entry) s).1
  unfolding serve_module
  entry_is h =
      let e : t ≡ same (run_t at (name_at p) s₁).0 new.name = h₂.0 ∙ ap (same (run_t at (name_at p) s₁).0) en in
      then_it at (get32 entry) s _ h₁
      (then_it at (name_at p) s₁ (λ name. if same name new.name then imports_of (Some new) base entry else ret tt)
      (paired at (name_at p) s₁ h₂.1)
      (rw (← e) h))

  pub entry-served
      : {tables : ModuleTables} {s₃ v : State} → t ≡ true → (tables, s₃) ≡ run_t at (tables_of entry) s₂
      → v ≡ (run_t at (link_tables (Some new) base tables) s₃).1 → v ≡ (run_t at (serve_module new base entry) s).1
  entry-served e h g = entry_is (rw e (tables-linked at base entry (Some new) s₂ h g))

  pub entry-passed : t ≡ false → s₂ ≡ (run_t at (serve_module new base entry) s).1
  unfolding run_t
  entry-passed e = entry_is (rw (e, run_t))

pub both_served
    : (at base : ℕ) (new : Module) (s : State) {u v : State} → u ≡ (run_t at (serve_all_named new base) s).1 → v ≡ (run_t at (serve_all_modules new base) u).1
    → v ≡ (run_t at (serve new base) s).1
unfolding serve serve_all_named serve_all_modules field ◌>>=◌
both_served at base new s h g = two at (serve_all_named new base) s (serve_all_modules new base) h g

-- the module that an entry names

none_named : (place : ℕ) (ms : List Module) (name : List ℕ) → place_from place ms (has_name name) ≡ None → module_by_name ms name ≡ None
unfolding place_from has_name module_by_name
none_named place [] name e = refl
none_named place (m ∷ ms) name e = go (same name m.name) e (none_named (place + module_bytes m) ms name)
  where
    go
        : (t : Bool) → (if t then Some place else place_from (place + module_bytes m) ms (has_name name)) ≡ None
        → (place_from (place + module_bytes m) ms (has_name name) ≡ None → module_by_name ms name ≡ None)
        → (if t then Some m else module_by_name ms name) ≡ None
    go true e h = let z : ◌≡◌ {A = ℕ} 0 1 = cc in absurd (omega arith)
    go false e h = h e

first-named
    : (place : ℕ) (before : List Module) (m : Module) (after : List Module) (name : List ℕ) → place_from place before (has_name name) ≡ None
    → has_name name m ≡ true → module_by_name (before ++ (m ∷ after)) name ≡ Some m
unfolding place_from has_name module_by_name
first-named place [] m after name e h = rw h
first-named place (b ∷ before) m after name e h =
    go (same name b.name) e (λ k. first-named (place + module_bytes b) before m after name k h)
  where
    go
        : (t : Bool) → (if t then Some place else place_from (place + module_bytes b) before (has_name name)) ≡ None
        → (place_from (place + module_bytes b) before (has_name name) ≡ None → module_by_name (before ++ (m ∷ after)) name ≡ Some m)
        → (if t then Some b else module_by_name (before ++ (m ∷ after)) name) ≡ Some m
    go true e g = let z : ◌≡◌ {A = ℕ} 0 1 = cc in absurd (omega arith)
    go false e g = g e

module _ (records names : List ℕ) (at base entry : ℕ) (s : State) {p : ℕ} {f : Option ℕ} {tables : ModuleTables} {s₁ s₂ s₃ : State}
    (h₁ : (p, s₁) ≡ run_t at (get32 entry) s)
    (h₂ : (f ≡ place_from 32 (modules_of records names) (has_name (run_t at (name_at p) s₁).0)) × (s₂ ≡ (run_t at (name_at p) s₁).1))
    (h₃ : (tables, s₃) ≡ run_t at (tables_of entry) s₂) where
  abbrev ms : List Module
  ms = modules_of records names

  abbrev name : List ℕ
  name = (run_t at (name_at p) s₁).0

  module_is
      : {source : Option Module} {v : State} → module_by_name ms name ≡ source → v ≡ (run_t at (link_tables source base tables) s₃).1
      → v ≡ (run_t at (import_module ms base entry) s).1
  unfolding import_module
  module_is {source} e g =
      then_it at (get32 entry) s _ h₁
      (then_it at (name_at p) s₁ (λ name. imports_of (module_by_name ms name) base entry) (paired at (name_at p) s₁ h₂.1)
      (rw e (tables-linked at base entry source s₂ h₃ g)))

  pub module_missing : f ≡ None → s₃ ≡ (run_t at (import_module ms base entry) s).1
  unfolding link_from run_t
  module_missing e = module_is (none_named 32 ms name (sym h₂.0 ∙ e)) refl

  pub module_found
      : {place : ℕ} {v : State} → Encoded records names → f ≡ Some place
      → v ≡ (run_t at (link_tables (Some (module_at records names place)) base tables) s₃).1 → v ≡ (run_t at (import_module ms base entry) s).1
  module_found {place} c e h =
      let d = first-placed records names (has_name name) c (sym h₂.0 ∙ e) in
      let k : module_by_name ms name ≡ Some (module_at records names place) =
      ap (λ l. module_by_name l name) d.split ∙ first-named 32 d.before d.found d.after name d.first d.passes
      ∙ ap Some (sym d.stands.back) in
      module_is k h

-- once a touch is kept, entries wholly outside import nothing

pub serve-named-idle : (at base : ℕ) (new : Module) → Idle at (serve_named new base) import_named_symbol_entry_size
serve-named-idle at base new w t kept x out =
    serve-passed at base x new (w, t) refl (part_read at w t kept x import_named_symbol_entry_size out 4 (omega arith)) (no_batch at 0 (w, t) refl) refl

pub serve_module-idle : (at base : ℕ) (new : Module) → Idle at (serve_module new base) import_module_entry_size
unfolding serve_module
serve_module-idle at base new w t kept x out =
    then_it at (get32 x) (w, t) _ (first_read at w t kept x import_module_entry_size out (omega arith))
    (then_it at (name_at 0) (w, t) (λ name. if same name new.name then imports_of (Some new) base x else ret tt) (name-outside at (w, t))
    (by_name (same [] new.name)))
  where
    by_name : (b : Bool) → (w, t) ≡ (run_t at (if b then imports_of (Some new) base x else ret tt) (w, t)).1
    by_name true = entry-idle at base (Some new) w t kept x out
    by_name false = ap left (given at tt (w, t))

pub import_module-idle : (at base : ℕ) (ms : List Module) → Idle at (import_module ms base) import_module_entry_size
unfolding import_module
import_module-idle at base ms w t kept x out =
    then_it at (get32 x) (w, t) _ (first_read at w t kept x import_module_entry_size out (omega arith))
    (then_it at (name_at 0) (w, t) (λ name. imports_of (module_by_name ms name) base x) (name-outside at (w, t))
    (entry-idle at base (module_by_name ms []) w t kept x out))
