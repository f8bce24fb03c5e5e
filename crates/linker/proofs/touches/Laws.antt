-- From the code's touches to the programs of `Exports`: of what a program gives nothing counts but the state that it leaves.
use Rattle.std.proofs.Common.{◌≡◌, ℕ, ◌+◌, ◌-◌, ◌<◌, ◌≤◌, Bool, true, List, [], ◌∷◌, ◌++◌, take, sym, ap, ◌∙◌, arith, Option}
use Rattle.window.specs.Memory.{◌⊕◌}
use Rattle.window.specs.Access.{Prog, ret, ◌>>=◌, get32, Reads, reads_bind}
use Rattle.window.specs.Loop.{loop, loop_reads}
use Rattle.window.specs.Trace.{State, said, run_t}
use Rattle.window.specs.TraceRuns.{left, given, then_it, loop_t_end, loop_t_turn}
use Rattle.window.specs.Silent.{silent_reads}
use Rattle.window.specs.Name.{name_at, name_at_reads}
use Rattle.layout.specs.Header.{export_named_symbol_entry_size, export_indexed_symbol_entry_size, module_name_offset, segment_num}
use Rattle.layout.specs.Segments.{field, entry_at, segment, segment_reads, tag_to_address, tag_to_address_reads}
use Rattle.register.specs.Module.{Export}
use Rattle.linker_spec.specs.Exports.{named_export, named_exports, indexed_export, indexed_exports, offset_or0, most_segments, read_segments, read_module}
use Rattle.layout.specs.declared.format.Segment.{Segment}

-- what goes on after m, whatever m gave
then-any
    : {A B : Type 0} (at : ℕ) (m : Prog A) (s : State) (f : A → Prog B) {u v : State} → u ≡ (run_t at m s).1
    → ((a : A) → v ≡ (run_t at (f a) u).1) → v ≡ (run_t at (m >>= f) s).1
then-any at m s f h g = then_it at m s f (ap (λ (u : State). ((run_t at m s).0, u)) h) (g (run_t at m s).0)

-- what is read last is dropped
last_read
    : {A B : Type 0} (at : ℕ) (m : Prog A) (s : State) (f : A → B) {a : A} {u : State} → (a, u) ≡ run_t at m s
    → u ≡ (run_t at (m >>= λ a. ret (f a)) s).1
last_read at m s f {a} {u} h = then_it at m s (λ a. ret (f a)) h (ap left (given at (f a) u))

-- what n turns leave that hand a value on, each at a place g of its number
abbrev pub turns : {A : Type 0} (at : ℕ) → (ℕ → A → Prog A) → (ℕ → ℕ) → (i n : ℕ) → A → State → State
turns at f g i n a s = (run_t at (loop (λ j a. f (g j) a) i n a) s).1

-- some value is handed on, and what is left to touch leaves r
abbrev pub LeftToTouch : {A : Type 0} (at : ℕ) → (ℕ → A → Prog A) → (ℕ → ℕ) → (i n : ℕ) → State → State → Type 0
LeftToTouch {A} at f g i n s r = (a : A) × (turns at f g i (n - i) a s ≡ r)

pub none_touched
    : {A : Type 0} (at : ℕ) (f : ℕ → A → Prog A) (g : ℕ → ℕ) (n : ℕ) (s : State) (a : A) → LeftToTouch at f g 0 n s (turns at f g 0 n a s)
none_touched at f g n s a = let z : n - 0 ≡ n = omega arith in (a, rw z)

module _ {A : Type 0} (at : ℕ) (f : ℕ → A → Prog A) (g : ℕ → ℕ) (i n : ℕ) (s : State) {r : State} (rest : LeftToTouch at f g i n s r) where
  pub turn_touched
      : {e : ℕ} {v : State} → i < n → e ≡ g i → ((a : A) → v ≡ (run_t at (f e a) s).1) → LeftToTouch at f g (i + 1) n v r
  turn_touched l p h =
      let a = rest.0 in
      let b = (run_t at (f (g i) a) s).0 in
      let made = h a ∙ ap (λ e. (run_t at (f e a) s).1) p in (
        b,
        ap (turns at f g (i + 1) (n - (i + 1)) b) made ∙ ap left (sym (loop_t_turn at (λ j a. f (g j) a) i n a s l)) ∙ rest.1,
      )

  pub turns_touched : n ≤ i → s ≡ r
  turns_touched l = ap left (sym (loop_t_end at (λ j a. f (g j) a) i n rest.0 s l)) ∙ rest.1

  -- once a touch is kept, turns that only read change nothing
  pub touch_kept : ((e : ℕ) (a : A) → Reads (f e a)) → {b : Bool} → b ≡ said s.1 → b ≡ true → s ≡ r
  touch_kept h e k =
      let only = loop_reads (λ j a. f (g j) a) i (n - i) rest.0 (λ j a. h (g j) a) in
      sym (silent_reads at _ s.0 s.1 only (sym e ∙ k)) ∙ rest.1

-- one entry of each table

abbrev pub named_entry : ℕ → ℕ → ℕ
named_entry table i = entry_at table i export_named_symbol_entry_size

abbrev pub indexed_entry : ℕ → ℕ → ℕ
indexed_entry table i = entry_at table i export_indexed_symbol_entry_size

module _ (at base entry : ℕ) (s : State) where
  pub named_touched
      : {p e₄ tag : ℕ} {a : Option ℕ} {s₁ s₂ s₃ s₄ : State} → (p, s₁) ≡ run_t at (get32 entry) s → s₂ ≡ (run_t at (name_at p) s₁).1
      → e₄ ≡ entry ⊕ 4 → (tag, s₃) ≡ run_t at (get32 e₄) s₂ → (a, s₄) ≡ run_t at (tag_to_address base tag) s₃
      → (xs : List Export) → s₄ ≡ (run_t at (named_export base entry xs) s).1
  unfolding named_export
  named_touched {p} {tag = tag} {s₁ = s₁} {s₂} {s₃} h₁ h₂ e h₃ h₄ xs =
      then_it at (get32 entry) s _ h₁
      (then-any at (name_at p) s₁ _ h₂
      (λ name. then_it at (get32 (entry ⊕ 4)) s₂ _ (h₃ ∙ ap (λ x. run_t at (get32 x) s₂) e)
      (last_read at (tag_to_address base tag) s₃ _ h₄)))

  pub indexed_touched
      : {tag : ℕ} {a : Option ℕ} {s₁ s₂ : State} → (tag, s₁) ≡ run_t at (get32 entry) s → (a, s₂) ≡ run_t at (tag_to_address base tag) s₁
      → (xs : List ℕ) → s₂ ≡ (run_t at (indexed_export base entry xs) s).1
  unfolding indexed_export
  indexed_touched {tag} {s₁ = s₁} h₁ h₂ xs =
      then_it at (get32 entry) s _ h₁ (last_read at (tag_to_address base tag) s₁ _ h₂)

abbrev pub segment_turn : ℕ → ℕ → List ℕ → Prog (List ℕ)
segment_turn base i xs = segment base i >>= λ s. ret (xs ++ (offset_or0 s ∷ []))

pub segment_touched
    : (at base i : ℕ) (s : State) {a : Option Segment} {s₁ : State} → (a, s₁) ≡ run_t at (segment base i) s
    → (xs : List ℕ) → s₁ ≡ (run_t at (segment_turn base i xs) s).1
segment_touched at base i s h xs = last_read at (segment base i) s (λ a. xs ++ (offset_or0 a ∷ [])) h

-- they only read

pub named_reads : (base entry : ℕ) (xs : List Export) → Reads (named_export base entry xs)
unfolding named_export Reads ◌>>=◌
named_reads base entry xs p =
    reads_bind (name_at p) _ (name_at_reads p)
    (λ name tag. reads_bind (tag_to_address base tag) _ (tag_to_address_reads base tag) (λ a. tt))

pub indexed_reads : (base entry : ℕ) (xs : List ℕ) → Reads (indexed_export base entry xs)
unfolding indexed_export Reads ◌>>=◌
indexed_reads base entry xs tag = reads_bind (tag_to_address base tag) _ (tag_to_address_reads base tag) (λ a. tt)

pub turn_reads : (base i : ℕ) (xs : List ℕ) → Reads (segment_turn base i xs)
unfolding Reads
turn_reads base i xs = reads_bind (segment base i) _ (segment_reads base i) (λ a. tt)

-- the tables, whose place and count are read first

pub table_touched
    : {A : Type 0} (at base x y : ℕ) (f : ℕ → ℕ → Prog A) (s : State) {table count : ℕ} {s₁ s₂ v : State} → (table, s₁) ≡ run_t at (field base x) s
    → (count, s₂) ≡ run_t at (field base y) s₁ → v ≡ (run_t at (f table count) s₂).1
    → v ≡ (run_t at (field base x >>= λ t. field base y >>= λ n. f t n) s).1
table_touched at base x y f s {table} {s₁ = s₁} h₁ h₂ h₃ =
    then_it at (field base x) s (λ t. field base y >>= λ n. f t n) h₁ (then_it at (field base y) s₁ (λ n. f table n) h₂ h₃)

pub segments_touched
    : (at base : ℕ) (s : State) {count : ℕ} {s₁ v : State} → (count, s₁) ≡ run_t at (field base segment_num) s
    → v ≡ turns at (segment_turn base) (λ j. j) 0 count [] s₁ → v ≡ (run_t at (read_segments base) s).1
unfolding read_segments
segments_touched at base s {count} {s₁} {v} h₁ h₂ =
    then_it at (field base segment_num) s _ h₁
    (then-any at (loop (segment_turn base) 0 count []) s₁ _ h₂ (λ xs. ap left (given at (take most_segments xs) v)))

pub module_touched
    : (at base : ℕ) (s : State) {p : ℕ} {s₁ s₂ s₃ s₄ s₅ : State} → s₁ ≡ (run_t at (named_exports base) s).1 → s₂ ≡ (run_t at (indexed_exports base) s₁).1
    → s₃ ≡ (run_t at (read_segments base) s₂).1 → (p, s₄) ≡ run_t at (field base module_name_offset) s₃ → s₅ ≡ (run_t at (name_at p) s₄).1
    → (size : ℕ) (auto : Bool) → s₅ ≡ (run_t at (read_module base size auto) s).1
unfolding read_module
module_touched at base s {p} {s₁} {s₂} {s₃} {s₄} {s₅} h₁ h₂ h₃ h₄ h₅ size auto =
    then-any at (named_exports base) s _ h₁
    (λ named. then-any at (indexed_exports base) s₁ _ h₂
    (λ indexed. then-any at (read_segments base) s₂ _ h₃
    (λ segments. then_it at (field base module_name_offset) s₃ _ h₄
    (then-any at (name_at p) s₄ _ h₅ (λ name. ap left (given at _ s₅))))))
