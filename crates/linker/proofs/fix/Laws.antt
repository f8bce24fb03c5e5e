-- From the code's calls and branches to the programs of `Fix`.
use Rattle.std.specs.Prelude.{if◌then◌else◌}
use Rattle.std.proofs.Common.{◌≡◌, ℕ, ◌+◌, ◌-◌, ◌*◌, ◌/◌, ◌<◌, ◌≤◌, min, max, eqb, ltb, get_or, ap, ◌∙◌, arith, le-ltb, lt-ltb, eq-eqb, ne_eqb}
use Rattle.window.specs.Memory.{◌⊕◌}
use Rattle.window.specs.Access.{Prog, ret, ◌>>=◌, ◌>>◌}
use Rattle.window.specs.Loop.{loop}
use Rattle.window.specs.Trace.{State, run_t}
use Rattle.window.specs.TraceRuns.{seq, gives}
use Rattle.layout.specs.Header.{code_offset, code_size, module_name_offset, export_named_symbol_table_offset, import_module_table_offset, static_anonymous_symbol_table_offset, header_size, fixed_size}
use Rattle.layout.specs.Tables.{table_entry_sizes}
use Rattle.layout.specs.Segments.{field, set_field, entry_at}
use Rattle.linker_spec.specs.Fix.{align_up, fixed_to, fix_pair, end_tables, fix_from, fix}

pub fixed_in_steps
    : (end base size : ℕ) {n a r : ℕ} → n ≡ end - base → a ≡ align_up n → r ≡ min a size → r ≡ fixed_to end base size
unfolding fixed_to
fixed_in_steps end base size e f g = g ∙ ap (λ a. min a size) (f ∙ ap align_up e)

-- the field of pair i
abbrev pair_field : ℕ → ℕ
pair_field i = module_name_offset + 8 * i

module _ (at base barrier i end : ℕ) (s : State) {table count : ℕ} {s₁ s₂ : State} (et : (table, s₁) ≡ run_t at (field base (pair_field i)) s)
    (ec : (count, s₂) ≡ run_t at (field base (pair_field i + 4)) s₁) where
  pair_is
      : run_t at (if ltb (pair_field i) barrier
      then ret (if eqb count 0 then end else max end (entry_at table count (get_or table_entry_sizes i 0)))
      else (set_field base (pair_field i + 4) 0 >> ret end)) s₂
      ≡ run_t at (fix_pair base barrier i end) s
  unfolding fix_pair
  pair_is =
      gives at (field base (pair_field i + 4)) s₁
      (λ count. if ltb (pair_field i) barrier
      then ret (if eqb count 0 then end else max end (entry_at table count (get_or table_entry_sizes i 0)))
      else (set_field base (pair_field i + 4) 0 >> ret end))
      ec
      ∙ gives at (field base (pair_field i)) s _ et

  pub pair_dropped
      : {v : State} → barrier ≤ pair_field i → v ≡ (run_t at (set_field base (pair_field i + 4) 0) s₂).1 → (end, v) ≡ run_t at (fix_pair base barrier i end) s
  unfolding run_t
  pair_dropped l h = seq at (set_field base (pair_field i + 4) 0) s₂ (ret end) h ∙ rw (le-ltb (pair_field i) barrier l) at pair_is

  pub pair-empty : pair_field i < barrier → count ≡ 0 → (end, s₂) ≡ run_t at (fix_pair base barrier i end) s
  unfolding run_t
  pair-empty l z = rw (lt-ltb (pair_field i) barrier l, run_t, eq-eqb count 0 z) at pair_is

  pub pair-counted
      : {size e r : ℕ} → pair_field i < barrier → (count ≡ 0 → ⊥) → size ≡ get_or table_entry_sizes i 0 → e ≡ entry_at table count size
      → r ≡ max end e → (r, s₂) ≡ run_t at (fix_pair base barrier i end) s
  unfolding run_t
  pair-counted l n z d m =
      ap (λ r. (r, s₂)) (m ∙ ap (max end) (d ∙ ap (entry_at table count) z))
      ∙ rw (lt-ltb (pair_field i) barrier l, run_t, ne_eqb count 0 n) at pair_is

-- the tables from the barrier on, as the code counts them
pub dropped_start
    : (at base barrier end : ℕ) (s : State) {n : ℕ} → n ≡ header_size - barrier
    → run_t at (loop (λ i _. set_field base (barrier + 8 * i) end) 0 (n / 8 - 0) tt) s
    ≡ run_t at (end_tables base barrier end) s
unfolding end_tables
dropped_start at base barrier end s {n} e =
    let z : n / 8 - 0 ≡ (header_size - barrier) / 8 = omega arith in
    rw z

pub fixed_from
    : (at base size barrier : ℕ) (s : State) {code bytes x end f y : ℕ} {s₁ s₂ u v z : State} → (code, s₁) ≡ run_t at (field base code_offset) s
    → (bytes, s₂) ≡ run_t at (field base code_size) s₁ → x ≡ code ⊕ bytes → (end, u) ≡ run_t at (loop (fix_pair base barrier) 0 15 x) s₂
    → f ≡ fixed_to end base size → y ≡ base ⊕ f
    → v ≡ (run_t at (end_tables base barrier y) u).1
    → z ≡ (run_t at (set_field base fixed_size f) v).1 → (f, z) ≡ run_t at (fix_from base size barrier) s
unfolding fix_from run_t
fixed_from at base size barrier s {code} {bytes} {x} {end} {f} {y} {s₁} {s₂} {u} {v} ec eb ex h ef ey g k =
    let sizing : ℕ → Prog ℕ = λ f. set_field base fixed_size f >> ret f in
    let ending : ℕ → Prog ℕ = λ end. end_tables base barrier (base ⊕ fixed_to end base size) >> sizing (fixed_to end base size) in
    let pairs : ℕ → Prog ℕ = λ x. loop (fix_pair base barrier) 0 15 x >>= ending in
    seq at (set_field base fixed_size f) v (ret f) k
    ∙ seq at (end_tables base barrier y) u (sizing f) g
    ∙ ap (λ y. run_t at (end_tables base barrier y >> sizing f) u) ey
    ∙ ap (λ f. run_t at (end_tables base barrier (base ⊕ f) >> sizing f) u) ef
    ∙ gives at (loop (fix_pair base barrier) 0 15 x) s₂ ending h
    ∙ ap (λ x. run_t at (pairs x) s₂) ex
    ∙ gives at (field base code_size) s₁ (λ b. pairs (code ⊕ b)) eb
    ∙ gives at (field base code_offset) s (λ c. field base code_size >>= λ b. pairs (c ⊕ b)) ec

module _ (at base size level : ℕ) (s : State) where
  pub fixed_1 : {r : ℕ × State} → level ≡ 1 → r ≡ run_t at (fix_from base size static_anonymous_symbol_table_offset) s → r ≡ run_t at (fix base size level) s
  unfolding fix
  fixed_1 e h = rw (eq-eqb level 1 e) h

  pub fixed_2
      : {r : ℕ × State} → (level ≡ 1 → ⊥) → level ≡ 2 → r ≡ run_t at (fix_from base size import_module_table_offset) s → r ≡ run_t at (fix base size level) s
  unfolding fix
  fixed_2 n e h = rw (ne_eqb level 1 n, eq-eqb level 2 e) h

  pub fixed_3
      : {r : ℕ × State} → (level ≡ 1 → ⊥) → (level ≡ 2 → ⊥) → level ≡ 3 → r ≡ run_t at (fix_from base size export_named_symbol_table_offset) s
      → r ≡ run_t at (fix base size level) s
  unfolding fix
  fixed_3 n m e h = rw (ne_eqb level 1 n, ne_eqb level 2 m, eq-eqb level 3 e) h

  pub fixed_no : (level ≡ 1 → ⊥) → (level ≡ 2 → ⊥) → (level ≡ 3 → ⊥) → (0, s) ≡ run_t at (fix base size level) s
  unfolding fix run_t
  fixed_no n m l = rw (ne_eqb level 1 n, ne_eqb level 2 m, ne_eqb level 3 l, run_t)
