-- From the code's calls and branches to the programs of `Relocation`.
use Rattle.std.specs.Prelude.{if◌then◌else◌, Option, Some, None}
use Rattle.std.proofs.Common.{◌≡◌, ℕ, suc, ◌+◌, ◌-◌, ◌<◌, Bool, true, false, not, eqb, List, sym, refl, ap, ◌∙◌, arith, eq-eqb, ne_eqb}
use native.Mathlib.Decide.{ℕ_discrete}
use mir.Val.{bool_byte}
use Rattle.window.specs.Memory.{◌⊕◌}
use Rattle.window.specs.Access.{Prog, ret, ◌>>=◌, ◌>>◌, get8, get32, put8}
use Rattle.window.specs.Loop.{loop}
use Rattle.window.specs.Trace.{State, said, run_t, run_t_bind}
use Rattle.window.specs.TraceRuns.{given, gives, seq, then_it, two, pick_then, pick_else}
use Rattle.window.specs.Silent.{silent_reads}
use Rattle.window.specs.Outside.{Idle, first_read, part_read, part_byte_read, part_byte_dropped}
use Rattle.layout.specs.Header.{external_relocation_table_offset, external_relocation_num, relocation_entry_size, on_unresolved_segment_tag}
use Rattle.layout.specs.Format.{relocation_type}
use Rattle.layout.specs.Segments.{field, entry_at, tag_to_address, tag_to_address_reads}
use Rattle.layout.proofs.Accesses.{read_there}
use Rattle.layout.specs.Relocation.Relocation.{apply_relocation, patch}
use Rattle.layout.specs.declared.format.RelocationType.{RelocationType}
use Rattle.linker_spec.specs.Relocation.{address_or0, unresolved_symbol, relocate_at, reset_entry, reset_external_relocations, walk, batch_limit, mark, apply_relocation_batch, batch_is_resolved}
use Rattle.linker.specs.Relocation.Entry.{relocate_entry, apply_entry, walk_entry}
use Rattle.linker.specs.Sources.Laws.{paired}

-- a byte at a sum that the code made first
module _ (at : ℕ) (s : State) {p q : ℕ} (e : p ≡ q) where
  read8_there : {r : ℕ × State} → r ≡ run_t at (get8 p) s → r ≡ run_t at (get8 q) s
  read8_there h = h ∙ ap (λ p. run_t at (get8 p) s) e

  write8_there : (v : ℕ) {u : State} → u ≡ (run_t at (put8 p v) s).1 → u ≡ (run_t at (put8 q v) s).1
  write8_there v h = h ∙ ap (λ p. (run_t at (put8 p v) s).1) e

-- one entry

module _ (at base symbol tag kind addend : ℕ) (s : State) {r : Option ℕ} {s₁ : State} (h : (r, s₁) ≡ run_t at (tag_to_address base tag) s) where
  relocated : {v : State} → v ≡ (run_t at (relocate_at r kind addend symbol) s₁).1 → v ≡ (run_t at (relocate_entry base symbol tag kind addend) s).1
  unfolding relocate_entry
  relocated = then_it at (tag_to_address base tag) s (λ r. relocate_at r kind addend symbol) h

  pub relocate_nowhere : r ≡ None → s₁ ≡ (run_t at (relocate_entry base symbol tag kind addend) s).1
  unfolding relocate_at run_t
  relocate_nowhere e = relocated (rw (e, relocate_at, run_t))

  pub relocate-at
      : {target : ℕ} {k : RelocationType} {v : State} → r ≡ Some target → k ≡ relocation_type kind
      → v ≡ (run_t at (apply_relocation target k addend symbol target) s₁).1 → v ≡ (run_t at (relocate_entry base symbol tag kind addend) s).1
  unfolding relocate_at
  relocate-at e k g = relocated (rw (e, relocate_at, ← k) g)

module _ (at base symbol entry : ℕ) (s : State) {tag x kind : ℕ} {s₁ s₂ : State} (h₁ : (tag, s₁) ≡ run_t at (get32 entry) s)
    (e₂ : x ≡ entry ⊕ 4) (h₂ : (kind, s₂) ≡ run_t at (get8 x) s₁) where
  pub entry_applied
      : {y addend : ℕ} {s₃ v : State} → y ≡ entry ⊕ 8 → (addend, s₃) ≡ run_t at (get32 y) s₂
      → v ≡ (run_t at (relocate_entry base symbol tag kind addend) s₃).1 → v ≡ (run_t at (apply_entry base symbol entry) s).1
  unfolding apply_entry
  entry_applied e₃ h₃ g =
      then_it at (get32 entry) s _ h₁
      (then_it at (get8 (entry ⊕ 4)) s₁ _ (read8_there at s₁ e₂ h₂)
      (then_it at (get32 (entry ⊕ 8)) s₂ (λ addend. relocate_entry base symbol tag kind addend) (read_there at s₂ e₃ h₃) g))

  pub entry_walked
      : {z end y addend : ℕ} {s₃ s₄ v : State} → z ≡ entry ⊕ 5 → (end, s₃) ≡ run_t at (get8 z) s₂ → y ≡ entry ⊕ 8
      → (addend, s₄) ≡ run_t at (get32 y) s₃ → v ≡ (run_t at (relocate_entry base symbol tag kind addend) s₄).1
      → (end, v) ≡ run_t at (walk_entry base symbol entry) s
  unfolding walk_entry
  entry_walked {end = end} {addend = addend} {s₃ = s₃} {s₄} {v} e₃ h₃ e₄ h₄ g =
      given at end v
      ∙ seq at (relocate_entry base symbol tag kind addend) s₄ (ret end) g
      ∙ gives at (get32 (entry ⊕ 8)) s₃ (λ addend. relocate_entry base symbol tag kind addend >> ret end) (read_there at s₃ e₄ h₄)
      ∙ gives at (get8 (entry ⊕ 5)) s₂ _ (read8_there at s₂ e₃ h₃)
      ∙ gives at (get8 (entry ⊕ 4)) s₁ _ (read8_there at s₁ e₂ h₂)
      ∙ gives at (get32 entry) s _ h₁

-- a batch: k entries walked, at most m

module _ (at base symbol entry : ℕ) (s : State) where
  -- what follows an entry, and what follows its turn
  after : (f n end : ℕ) → Prog ℕ
  after f n end = if eqb end 0 then walk f base symbol (entry ⊕ relocation_entry_size) (suc n) else ret (suc n)

  turn-then
      : (tag kind addend end : ℕ) (next : ℕ → Prog ℕ) (u : State)
      → run_t at (tag_to_address base tag >>= λ target. relocate_at target kind addend symbol >> next end) u
      ≡ run_t at (next (run_t at (relocate_entry base symbol tag kind addend >> ret end) u).0) (run_t at (relocate_entry base symbol tag kind addend >> ret end) u).1
  unfolding relocate_entry run_t
  turn-then tag kind addend end next u =
      let m : Prog (Unit {0}) = tag_to_address base tag >>= λ target. relocate_at target kind addend symbol in
      let t = run_t at (tag_to_address base tag) u in
      run_t_bind at (tag_to_address base tag) _ u
      ∙ run_t_bind at (relocate_at t.0 kind addend symbol) (λ _. next end) t.1
      ∙ ap (λ (r : Unit {0} × State). run_t at (next end) r.1) (sym (run_t_bind at (tag_to_address base tag) (λ target. relocate_at target kind addend symbol) u))
      ∙ sym (ap (λ (r : ℕ × State). run_t at (next r.0) r.1) (run_t_bind at m (λ _. ret end) u))

  walk_is
      : (f n : ℕ)
      → run_t at (walk (suc f) base symbol entry n) s
      ≡ run_t at (if eqb (run_t at (walk_entry base symbol entry) s).0 0 then walk f base symbol (entry ⊕ relocation_entry_size) (suc n) else ret (suc n))
      (run_t at (walk_entry base symbol entry) s).1
  unfolding walk walk_entry run_t ◌>>=◌
  walk_is f n =
      turn-then _ _ _ _ (λ end. if eqb end 0 then walk f base symbol (entry ⊕ relocation_entry_size) (suc n) else ret (suc n)) _

  module _ (m k : ℕ) {end : ℕ} {v : State} (l : k < m) (h : (end, v) ≡ run_t at (walk_entry base symbol entry) s) where
    walk_step
        : run_t at (walk (m - k) base symbol entry k) s
        ≡ run_t at (if eqb end 0 then walk (m - (k + 1)) base symbol (entry ⊕ relocation_entry_size) (k + 1) else ret (k + 1)) v
    walk_step =
        let z : m - k ≡ suc (m - (k + 1)) = omega arith in
        let t : suc k ≡ k + 1 = omega arith in
        rw (z, ← t)
        (walk_is (m - suc k) k
        ∙ ap (λ (r : ℕ × State). run_t at (if eqb r.0 0 then walk (m - suc k) base symbol (entry ⊕ relocation_entry_size) (suc k) else ret (suc k)) r.1)
        (sym h))

    pub walk_on
        : {next : ℕ} → end ≡ 0 → next ≡ entry ⊕ relocation_entry_size
        → run_t at (walk (m - (k + 1)) base symbol next (k + 1)) v ≡ run_t at (walk (m - k) base symbol entry k) s
    walk_on z n = sym (walk_step ∙ rw (eq-eqb end 0 z, ← n))

    pub walk_end : {n : ℕ} → n ≡ k + 1 → (end ≡ 0 → ⊥) → (n, v) ≡ run_t at (walk (m - k) base symbol entry k) s
    unfolding run_t
    walk_end e z = rw e (sym (walk_step ∙ rw (ne_eqb end 0 z, run_t)))

-- the walk, then the mark
pub batch_made
    : (at base batch symbol : ℕ) (resolved : Bool) (s : State) {n x b : ℕ} {u v : State}
    → (n, u) ≡ run_t at (walk batch_limit base symbol batch 0) s → x ≡ batch ⊕ 6 → b ≡ mark resolved → v ≡ (run_t at (put8 x b) u).1
    → (n, v) ≡ run_t at (apply_relocation_batch base batch symbol resolved) s
unfolding apply_relocation_batch
batch_made at base batch symbol resolved s {n} {u = u} {v} e x b h =
    given at n v
    ∙ seq at (put8 (batch ⊕ 6) (mark resolved)) u (ret n) (rw (x, b) at h)
    ∙ gives at (walk batch_limit base symbol batch 0) s (λ n. put8 (batch ⊕ 6) (mark resolved) >> ret n) e

-- a bool as the machine's byte
pub mark_byte : (b : Bool) → bool_byte b ≡ mark b
mark_byte true = refl
mark_byte false = refl

-- the mark read back, and the handler

if_not : (b : Bool) → not b ≡ (if b then false else true)
if_not true = refl
if_not false = refl

pub mark_read
    : (at batch : ℕ) (s : State) {x m : ℕ} {u : State} → x ≡ batch ⊕ 6 → (m, u) ≡ run_t at (get8 x) s
    → (not (eqb m 0), u) ≡ run_t at (batch_is_resolved batch) s
unfolding batch_is_resolved
mark_read at batch s {m = m} {u} x e =
    rw (if_not (eqb m 0)) (given at (if eqb m 0 then false else true) u)
    ∙ gives at (get8 (batch ⊕ 6)) s (λ m. ret (if eqb m 0 then false else true)) (read8_there at s x e)

pub handler_is
    : (at base : ℕ) (s : State) {tag h : ℕ} {r : Option ℕ} {s₁ s₂ : State} → (tag, s₁) ≡ run_t at (field base on_unresolved_segment_tag) s
    → (r, s₂) ≡ run_t at (tag_to_address base tag) s₁ → h ≡ address_or0 r → (h, s₂) ≡ run_t at (unresolved_symbol base) s
unfolding unresolved_symbol
handler_is at base s {tag} {r = r} {s₁} {s₂} e g f =
    ap (λ h. (h, s₂)) f
    ∙ given at (address_or0 r) s₂
    ∙ gives at (tag_to_address base tag) s₁ (λ r. ret (address_or0 r)) g
    ∙ gives at (field base on_unresolved_segment_tag) s (λ tag. tag_to_address base tag >>= λ r. ret (address_or0 r)) e

-- the external reset

module _ (at base handler entry : ℕ) (s : State) {x : ℕ} {u v : State} (p : x ≡ entry ⊕ 6) (h : v ≡ (run_t at (put8 x 0) u).1) where
  pub reset_none : handler ≡ 0 → u ≡ s → v ≡ (run_t at (reset_entry base handler entry) s).1
  unfolding reset_entry run_t
  reset_none z e =
      two at _ s (put8 (entry ⊕ 6) 0) (pick_then at s handler (ret tt) _ z e) (write8_there at u p 0 h)

  pub reset_some : (handler ≡ 0 → ⊥) → u ≡ (run_t at (apply_entry base handler entry) s).1 → v ≡ (run_t at (reset_entry base handler entry) s).1
  unfolding reset_entry apply_entry relocate_entry
  reset_some z e =
      two at _ s (put8 (entry ⊕ 6) 0) (pick_else at s handler (ret tt) (apply_entry base handler entry) z e) (write8_there at u p 0 h)

pub external_starts
    : (at base : ℕ) (s : State) {handler table count : ℕ} {s₁ s₂ s₃ : State} → (handler, s₁) ≡ run_t at (unresolved_symbol base) s
    → (table, s₂) ≡ run_t at (field base external_relocation_table_offset) s₁ → (count, s₃) ≡ run_t at (field base external_relocation_num) s₂
    → run_t at (loop (λ i _. reset_entry base handler (entry_at table i relocation_entry_size)) 0 count tt) s₃
    ≡ run_t at (reset_external_relocations base) s
unfolding reset_external_relocations
external_starts at base s {handler} {table} {s₁ = s₁} {s₂} h t n =
    gives at (field base external_relocation_num) s₂
    (λ count. loop (λ i _. reset_entry base handler (entry_at table i relocation_entry_size)) 0 count tt) n
    ∙ gives at (field base external_relocation_table_offset) s₁ _ t
    ∙ gives at (unresolved_symbol base) s _ h

-- once a touch is kept, an entry wholly outside has kind 0, which writes nothing, and its mark is not there

pub kind_0 : (at target addend symbol final : ℕ) (s : State) → s ≡ (run_t at (apply_relocation target (relocation_type 0) addend symbol final) s).1
unfolding apply_relocation patch relocation_type run_t
kind_0 at target addend symbol final s = refl

pub entry-idle
    : (at base symbol : ℕ) (w t : List ℕ) → said t ≡ true → (w, t) ≡ (run_t at (relocate_entry base symbol 0 0 0) (w, t)).1
entry-idle at base symbol w t kept =
    by_address _ (paired at (tag_to_address base 0) s (sym (silent_reads at (tag_to_address base 0) w t (tag_to_address_reads base 0) kept)))
  where
    s : State
    s = (w, t)

    by_address : (r : Option ℕ) → (r, s) ≡ run_t at (tag_to_address base 0) s → s ≡ (run_t at (relocate_entry base symbol 0 0 0) s).1
    by_address (Some a) h = relocate-at at base symbol 0 0 0 s h refl refl (kind_0 at a 0 symbol a s)
    by_address None h = relocate_nowhere at base symbol 0 0 0 s h refl

pub external_idle : (at base handler : ℕ) → Idle at (reset_entry base handler) relocation_entry_size
external_idle at base handler w t kept x out = elim (ℕ_discrete handler 0) [
  | yes z ↦ reset_none at base handler x s refl dropped z refl
  | no n ↦ reset_some at base handler x s refl dropped n applied
]
  where
    s : State
    s = (w, t)

    dropped : s ≡ (run_t at (put8 (x ⊕ 6) 0) s).1
    dropped = part_byte_dropped at w t kept x relocation_entry_size out 6 0 (omega arith)

    applied : s ≡ (run_t at (apply_entry base handler x) s).1
    applied =
        entry_applied at base handler x s (first_read at w t kept x relocation_entry_size out (omega arith)) refl
        (part_byte_read at w t kept x relocation_entry_size out 4 (omega arith)) refl (part_read at w t kept x relocation_entry_size out 8 (omega arith))
        (entry-idle at base handler w t kept)
