-- A named import of the new module: what it leaves of the window and of the register.
use Rattle.std.specs.Prelude.{if◌then◌else◌, Option, Some, None}
use Rattle.std.proofs.Common.{◌≡◌, ℕ, ◌+◌, ◌-◌, ◌<◌, ◌≤◌, Bool, true, false, List, length, take, sym, refl, ap, ◌∙◌, subst, arith}
use Rattle.window.specs.Memory.{◌⊕◌}
use Rattle.window.specs.Access.{Prog, ret, ◌>>=◌, ◌>>◌, get32}
use Rattle.window.specs.Word.{set_word_in}
use Rattle.window.specs.Loop.{loop}
use Rattle.window.specs.Trace.{State, said, run_t}
use Rattle.window.specs.TraceRuns.{given, gives, seq, on_true, on_false, turn_made, turns-over}
use Rattle.window.specs.Silent.{reads_run_t}
use Rattle.window.specs.Outside.{AllOutside, silent_stride, part_read, stride_made}
use Rattle.window.specs.Name.{name_at, name_at_reads, is_name, name_at-is_name, laid_over, name_is}
use Rattle.layout.specs.Header.{import_named_symbol_entry_size}
use Rattle.layout.specs.Segments.{entry_at}
use Rattle.register.specs.Module.{Register, Module}
use Rattle.register.specs.Decode.{read_register, register_of, is_register}
use Rattle.register.specs.CheckIs.{register-parts}
use Rattle.register.specs.Buffers.{Below, names_are, encode_missing}
use Rattle.register.specs.Change.{with_missing}
use Rattle.register.specs.Read.Read.{modules_of, lookup_in}
use Rattle.register.specs.Change.Bytes.{push_missing}
use Rattle.register.specs.Change.Kept.{word_twice, count_again, push-Kept, push_counts}
use Rattle.linker_spec.specs.Relocation.{apply_relocation_batch}
use Rattle.linker_spec.specs.Imports.{is_unresolved, resolve, add_missing, import_named}
use Rattle.linker_spec.specs.Calls.{missing_now}
use Rattle.linker.specs.Imports.Missing.{imported, MissingAdded}
use Rattle.layout.proofs.Accesses.{read_there}
use Rattle.linker.specs.Sources.Laws.{paired, unresolved_stays, resolved_by}
use Rattle.linker.proofs.sources.Laws.{no_batch}

-- the bytes that a step leaves, and that they are the register with its missing names
abbrev pub MissingLeft : Register → List ℕ → List ℕ → State → List ℕ → List ℕ → List (List ℕ) × State → Type 0
MissingLeft r records₀ names s records missing x =
    (◌≡◌ {A = State × List ℕ × List ℕ} (s, records, missing) (imported r records₀ x)) × MissingAdded r records names missing x.0

-- the missing list follows from the register
left_by_lem
    : (r : Register) (records₀ names : List ℕ) (s : State) {records missing : List ℕ} (ns : List (List ℕ))
    → records ≡ set_word_in records₀ 20 (length ns) → MissingAdded r records names missing ns → MissingLeft r records₀ names s records missing (ns, s)
unfolding encode_missing missing_now
left_by_lem r records₀ names s {records} {missing} ns f h =
    let m = names_are records names missing (register_of records names missing) (register-parts records names missing h.0).1 in
    let g : missing ≡ encode_missing (missing_now r ns) = m.1 ∙ rw (m.2, h.1) in
    let o : State × List ℕ × List ℕ = imported r records₀ (ns, s) in (
      ap (λ t. (s, t, missing)) f ∙ ap (λ t. (s, o.1, t)) g,
      h,
    )

-- one import

module _ (records names missing : List ℕ) (at base entry : ℕ) (s : State) (small : Below 256 records)
    (pre : is_register records names missing ≡ true) {y batch : ℕ} {t : Bool} {s₁ s₂ : State}
    (ey : y ≡ entry ⊕ 4) (h₁ : (batch, s₁) ≡ run_t at (get32 y) s) (h₂ : (t, s₂) ≡ run_t at (is_unresolved batch) s₁) where
  abbrev r : Register
  r = register_of records names missing

  abbrev x : List (List ℕ) × State
  x = run_t at (import_named r.modules base entry r.missing) s

  abbrev after : List ℕ → Prog (List (List ℕ))
  after name = resolve base batch (lookup_in r.modules name) >> ret (add_missing (lookup_in r.modules name) name r.missing)

  abbrev waiting : Prog (List (List ℕ))
  waiting = get32 entry >>= λ p. name_at p >>= after

  import_is : run_t at (if t then waiting else ret r.missing) s₂ ≡ x
  unfolding import_named
  import_is =
      gives at (is_unresolved batch) s₁ (λ t. if t then waiting else ret r.missing) h₂
      ∙ gives at (get32 (entry ⊕ 4)) s _ (read_there at s ey h₁)

  -- where no name is missing that was not, the records stay
  stays : (v : State) {ns : List (List ℕ)} → ns ≡ r.missing → MissingLeft r records names v records missing (ns, v)
  unfolding missing_now
  stays v {ns} e =
      left_by_lem r records names v ns (sym (count_again records names missing small pre) ∙ ap (λ t. set_word_in records 20 (length t)) (sym e))
      (pre, ap (missing_now r) (sym e))

  pub own-passed : t ≡ false → MissingLeft r records names s₂ records missing x
  own-passed e =
      let k : (r.missing, s₂) ≡ x = on_false at s₂ waiting (ret r.missing) e (given at r.missing s₂) ∙ import_is in
      subst (MissingLeft r records names s₂ records missing) k (stays s₂ refl)

  module _ (old : List ℕ) (e : t ≡ true) {p n : ℕ} {buffer : List ℕ} {z : Option ℕ} {s₃ s₄ : State} (h₃ : (p, s₃) ≡ run_t at (get32 entry) s₂)
      (h₄ : ((n, buffer) ≡ laid_over (run_t at (name_at p) s₃).0 old) × (s₄ ≡ (run_t at (name_at p) s₃).1))
      (ez : z ≡ lookup_in (modules_of records names) (take n buffer)) where
    abbrev name : List ℕ
    name = (run_t at (name_at p) s₃).0

    found : z ≡ lookup_in r.modules name
    unfolding register_of read_register modules_of
    found = ez ∙ ap (lookup_in (modules_of records names)) (name_is name old h₄.0)

    waits_is : (v : State) → v ≡ (run_t at (resolve base batch z) s₄).1 → (add_missing z name r.missing, v) ≡ x
    waits_is v h =
        given at (add_missing z name r.missing) v
        ∙ seq at (resolve base batch z) s₄ (ret (add_missing z name r.missing)) h
        ∙ ap (λ z. run_t at (resolve base batch z >> ret (add_missing z name r.missing)) s₄) found
        ∙ gives at (name_at p) s₃ after (paired at (name_at p) s₃ h₄.1)
        ∙ on_true at s₂ waiting (ret r.missing) e (gives at (get32 entry) s₂ (λ p. name_at p >>= after) h₃)
        ∙ import_is

    pub own-found
        : {a k : ℕ} {v : State} → z ≡ Some a → (k, v) ≡ run_t at (apply_relocation_batch base batch a true) s₄
        → MissingLeft r records names v records missing x
    unfolding add_missing
    own-found {v = v} f h =
        subst (MissingLeft r records names v records missing) (waits_is v (resolved_by at base batch s₄ f h)) (stays v (rw (f, add_missing)))

    pub own_missing
        : {records' missing' : List ℕ} → z ≡ None → (records', missing') ≡ push_missing records missing (take n buffer)
        → MissingLeft r records names s₄ records' missing' x
    unfolding add_missing missing_now with_missing
    own_missing {records'} {missing'} f h =
        let i : is_name name ≡ true = rw (reads_run_t at (name_at p) s₃ (name_at_reads p)).0 (name_at-is_name at p s₃.0) in
        let g = push-Kept records names missing name i pre in
        let h' : (records', missing') ≡ push_missing records missing name = h ∙ ap (push_missing records missing) (name_is name old h₄.0) in
        let a : records' ≡ (push_missing records missing name).0 = ap (λ (q : List ℕ × List ℕ). q.0) h' in
        let b : missing' ≡ (push_missing records missing name).1 = ap (λ (q : List ℕ × List ℕ). q.1) h' in
        let ns : List (List ℕ) = add_missing z name r.missing in
        let n : ns ≡ (with_missing r name).missing = rw (f, add_missing) in
        subst (MissingLeft r records names s₄ records' missing') (waits_is s₄ (unresolved_stays at base batch s₄ f))
        (left_by_lem r records names s₄ ns
        (a ∙ push_counts records names missing name i small pre ∙ ap (λ t. set_word_in records 20 (length t)) (sym n))
        (rw (a, b) g.0, rw (a, b) g.1 ∙ ap (missing_now r) (sym n)))

-- once a touch is kept, an import wholly outside has no batch
import_idle
    : (at base : ℕ) (ms : List Module) (ns : List (List ℕ)) (w t : List ℕ) → said t ≡ true → (x : ℕ)
    → AllOutside at (length w) x import_named_symbol_entry_size → (ns, (w, t)) ≡ run_t at (import_named ms base x ns) (w, t)
unfolding import_named
import_idle at base ms ns w t kept x out =
    given at ns (w, t)
    ∙ gives at (is_unresolved 0) (w, t) (λ b. if b then _ else ret ns) (no_batch at 0 (w, t) refl)
    ∙ gives at (get32 (x ⊕ 4)) (w, t) _ (part_read at w t kept x import_named_symbol_entry_size out 4 (omega arith))

-- the imports of a table, in turn

module _ (at base table : ℕ) (r₀ : Register) where
  abbrev pub turn : ℕ → List (List ℕ) → Prog (List (List ℕ))
  turn i ns = import_named r₀.modules base (entry_at table i import_named_symbol_entry_size) ns

  -- i turns are made, and the register has the missing names ns, counted in the records that were lent
  abbrev pub Reached : List ℕ → List ℕ → List ℕ → List ℕ → ℕ → ℕ → State → List (List ℕ) × State → Type 0
  Reached records₀ records names missing i n s end =
      (ns : List (List ℕ))
      × (MissingAdded r₀ records names missing ns
      × (run_t at (loop turn i (n - i) ns) s ≡ end)
      × (records ≡ set_word_in records₀ 20 (length ns)))

  module _ (records₀ records names missing : List ℕ) (i n : ℕ) (s : State) (end : List (List ℕ) × State)
      (h : Reached records₀ records names missing i n s end) where
    pub reached_over : {whole : List (List ℕ) × State} → n ≤ i → end ≡ whole → MissingLeft r₀ records₀ names s records missing whole
    reached_over l d =
        subst (MissingLeft r₀ records₀ names s records missing) (turns-over at turn i n h.0 s h.1.1 l ∙ d)
        (left_by_lem r₀ records₀ names s h.0 h.1.2 h.1.0)

    pub reached_next
        : (records' missing' : List ℕ) {entry : ℕ} {v : State} → i < n → entry ≡ entry_at table i import_named_symbol_entry_size
        → MissingLeft (register_of records names missing) records names v records' missing'
        (run_t at (import_named (register_of records names missing).modules base entry (register_of records names missing).missing) s)
        → Reached records₀ records' names missing' (i + 1) n v end
    unfolding missing_now
    reached_next records' missing' {entry} {v} l e g =
        let ns = h.0 in
        let r = register_of records names missing in
        let er : r ≡ missing_now r₀ ns = h.1.0.1 in
        let k : run_t at (import_named r.modules base entry r.missing) s ≡ run_t at (turn i ns) s =
        ap (λ (z : Register). run_t at (import_named z.modules base entry z.missing) s) er
        ∙ ap (λ z. run_t at (import_named r₀.modules base z ns) s) e in (
          (run_t at (turn i ns) s).0,
          (
            (
              g.1.0,
              g.1.1
                  ∙ ap (λ (z : Register). missing_now z (run_t at (import_named r.modules base entry r.missing) s).0) er
                  ∙ ap (λ (z : List (List ℕ) × State). missing_now r₀ z.0) k,
            ),
            turn_made at turn i n ns s h.1.1 l
                (ap (λ z. ((run_t at (turn i ns) s).0, z))
                (ap (λ (z : State × List ℕ × List ℕ). z.0) g.0 ∙ ap (λ (z : List (List ℕ) × State). z.1) k)),
            ap (λ (z : State × List ℕ × List ℕ). z.1) g.0
                ∙ ap (λ (z : List (List ℕ) × State). set_word_in records 20 (length z.0)) k
                ∙ ap (λ t. set_word_in t 20 (length (run_t at (turn i ns) s).0)) h.1.2
                ∙ word_twice records₀ 20 (length ns) (length (run_t at (turn i ns) s).0),
          ),
        )

pub reached_starts
    : (at base table count : ℕ) (records names missing : List ℕ) (s : State) → Below 256 records → is_register records names missing ≡ true
    → Reached at base table (register_of records names missing) records records names missing 0 count s
    (run_t at (loop (turn at base table (register_of records names missing)) 0 (count - 0) (register_of records names missing).missing) s)
unfolding missing_now
reached_starts at base table count records names missing s b h = (
  (register_of records names missing).missing,
  ((h, refl), refl, sym (count_again records names missing b h)),
)

-- a turn made, a stride passes over those wholly outside
pub reached_past
    : (at base table : ℕ) (r₀ : Register) (records₀ records names missing : List ℕ) (i n : ℕ) (w t : List ℕ) (end : List (List ℕ) × State) {entry k : ℕ}
    → Reached at base table r₀ records₀ records names missing (i + 1) n (w, t) end → i < n → entry ≡ entry_at table i import_named_symbol_entry_size
    → k ≡ silent_stride at (length w) t entry import_named_symbol_entry_size (n - i)
    → Reached at base table r₀ records₀ records names missing (i + k) n (w, t) end
reached_past at base table r₀ records₀ records names missing i n w t end h l e k = (
  h.0,
  (
    h.1.0,
    stride_made at (turn at base table r₀) table import_named_symbol_entry_size h.0 i n w t h.1.1 l e k
        (λ y j out. import_idle at base r₀.modules h.0 w t y (entry_at table j import_named_symbol_entry_size) out),
    h.1.2,
  ),
)
