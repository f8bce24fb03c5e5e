-- What each call leaves over a lent trace, from what its parts answered.
use Rattle.std.proofs.Common.{◌≡◌, ℕ, ◌^◌, ◌<◌, Bool, true, not, eqb, List, length, get_or, sym, refl, ap, ◌∙◌, subst, Option, Some, None}
use Rattle.window.specs.Access.{Prog, ret, ◌>>=◌, ◌>>◌, run}
use Rattle.window.specs.Trace.{State, run_t}
use Rattle.window.specs.TraceRuns.{left, given, gives, seq}
use Rattle.window.specs.Silent.{reads_run_t}
use Rattle.layout.specs.Header.{next_cro, previous_cro}
use Rattle.layout.specs.Segments.{set_field}
use Rattle.register.specs.Words.{words_in}
use Rattle.register.specs.Module.{Module, Register}
use Rattle.register.specs.Decode.{settled, register_of, is_register}
use Rattle.register.specs.Change.{appended, removed, with_crs}
use Rattle.register.specs.Buffers.{Below, encode_records, encode_names, encode_missing}
use Rattle.register.specs.Read.Read.{Encoded, modules_of, module_at, place_from, place_after, has_base, Sorted}
use Rattle.register.specs.Read.Places.{sorted_at}
use Rattle.register.specs.Read.Encoded.{first-placed}
use Rattle.register.specs.Change.Bytes.{set_crs}
use Rattle.register.specs.Change.Remove.{RecordOfRegister, remaining}
use Rattle.linker_spec.specs.declared.rebase.LoadArguments.{LoadArguments}
use Rattle.linker_spec.specs.Refusal.{Rebased}
use Rattle.linker_spec.specs.Relocation.{reset_external_relocations}
use Rattle.linker_spec.specs.Exports.{read_module, read_module_reads}
use Rattle.linker_spec.specs.Resets.{reset_importers}
use Rattle.linker_spec.specs.Unrebase.{unrebase}
use Rattle.linker_spec.specs.Calls.{Answer, Done, number, value, rebase, rebase_static, add_record, initialized, initialize, missing_now, linked, load, FirstWithBase, unknown, first_with_base, leave, unlisted, unload}
use Rattle.linker_spec.specs.Outcome.{Buffers, Outcome, register_after, outcome_of, buffers, outcome}
use Rattle.linker_spec.specs.Touches.{reset_rebased, up_to_reset, counted}
use Rattle.linker_spec.specs.Refusals.{lent_register}
use Rattle.linker_spec.specs.Room.{fits_means}
use Rattle.linker_spec.proofs.Recorded.{read_module_yields}
use Rattle.linker.specs.Imports.Modules.{modules_are}
use Rattle.linker.specs.Resets.Modules.{other_than}
use Rattle.linker.specs.Entry.Entry.{EntryResult, record_added}
use Rattle.linker.specs.Calls.Steps.{clear_list_fields}
use Rattle.linker.specs.Calls.Laws.{RecordAdded, in_now, not_now}
use Rattle.linker.specs.Calls.Stored.{crs-stored, missing_stored, used-place, register_exact, appended_kept}
use Rattle.linker.specs.Calls.Linked.{header_crs, LastRecord, LinkLeaves, one_more}
use Rattle.linker.specs.Calls.Traced.{call_of, traced}
use Rattle.linker.specs.Calls.Left as left_by_lem

-- what a call leaves: its outcome and its trace
abbrev OutcomeAndTrace : Type 0
OutcomeAndTrace = Outcome × List ℕ

abbrev leaves : ℕ → ℕ → State → List ℕ → List ℕ → List ℕ → OutcomeAndTrace
leaves n v s records names missing = (outcome n v (buffers s.0 records names missing), s.1)

-- a call that is done leaves the register that it says
finishes
    : (call : ℕ → ℕ → Register → Prog Answer) (beginning : Prog (Unit {0})) (at : ℕ) (b : Buffers) (t : List ℕ) (r : Register) (v : ℕ) (s : State)
    → ◌≡◌ {A = Answer × State} (Done v r, s) (run_t at (call_of call b) (b.window, t)) → {records names missing : List ℕ}
    → records ≡ encode_records (length b.records) r → names ≡ encode_names (length b.names) r → missing ≡ encode_missing r
    → leaves 0 v s records names missing ≡ traced call beginning at b t
unfolding traced outcome_of number value register_after counted
finishes call beginning at b t r v s e e₁ e₂ e₃ =
    let begun = (run_t at beginning (b.window, t)).1.1 in
    rw (e₁, e₂, e₃) (ap (λ (x : Answer × State). (outcome_of b (x.0, x.1.0), counted x.0 begun x.1.1)) e)

-- a call that enters a module
module _ (at : ℕ) (b : Buffers) (t : List ℕ) (rebasing : Prog Rebased) (base size : ℕ) (auto : Bool) (next : Register → Module → Prog Answer)
    {x : Rebased} {s₁ : State} (ex : ◌≡◌ {A = Rebased × State} (x, s₁) (run_t at rebasing (b.window, t))) where
  abbrev r : Register
  r = lent_register b

  abbrev call : ℕ → ℕ → Register → Prog Answer
  call records names s = rebasing >>= add_record records names s base size auto (next s)

  abbrev answer : Answer × State
  answer = run_t at (add_record (length b.records) (length b.names) r base size auto (next r) x) s₁

  comes : answer ≡ run_t at (call_of call b) (b.window, t)
  comes = gives at rebasing (b.window, t) (add_record (length b.records) (length b.names) r base size auto (next r)) ex

  begins : run_t at (reset_rebased base x) s₁ ≡ run_t at (up_to_reset rebasing base) (b.window, t)
  unfolding up_to_reset
  begins = gives at rebasing (b.window, t) (reset_rebased base) ex

  module _ {n : ℕ} {s₂ : State} {records names : List ℕ} (e : ◌≡◌ {A = EntryResult} (n, s₂, records, names) (record_added at b.records b.names base size auto x s₁)) where
    refused : (n ≡ 0 → ⊥) → leaves n 0 s₂ records names b.missing ≡ traced call (up_to_reset rebasing base) at b t
    unfolding traced
    refused k =
        ap (λ (y : EntryResult). leaves y.0 0 y.1 y.2 y.3 b.missing) e
        ∙ not_now at b base size auto s₁ (next r) x (λ z. k (ap (λ (y : EntryResult). y.0) e ∙ z))
        ∙ ap (λ (y : Answer × State). (outcome_of b (y.0, y.1.0), counted y.0 (run_t at (reset_rebased base x) s₁).1.1 y.1.1)) comes
        ∙ ap (λ (y : Unit {0} × State). let a = run_t at (call_of call b) (b.window, t) in (outcome_of b (a.0, a.1.0), counted a.0 y.1.1 a.1.1)) begins

    is_in : n ≡ 0 → RecordAdded at b base size auto s₁ x s₂ records names
    is_in z =
        subst (λ (y : EntryResult). RecordAdded at b base size auto s₁ x y.1 y.2 y.3) (sym e)
        (in_now at b base size auto s₁ x (sym (ap (λ (y : EntryResult). y.0) e) ∙ z))

-- initialize
unhung_then : (at base : ℕ) (r : Register) (m : Module) (s : State) {u : State} → u ≡ (run_t at (clear_list_fields base) s).1
    → ◌≡◌ {A = Answer × State} (Done 0 (with_crs (appended r m) base), u) (run_t at (initialized r base m) s)
unfolding clear_list_fields initialized
unhung_then at base r m s h =
    let one = set_field base next_cro 0 in
    let two = set_field base previous_cro 0 in
    let after_one = (run_t at one s).1 in
    let done = Done 0 (with_crs (appended r m) base) in
    ap (λ (u : State). (done, u)) (h ∙ sym (ap left (seq at one s two refl)))
    ∙ given at done (run_t at two after_one).1
    ∙ seq at two after_one (ret done) refl
    ∙ seq at one s (two >> ret done) refl

module _ (at base size : ℕ) (b : Buffers) (t : List ℕ) {x : Rebased} {s₁ : State} (ex : ◌≡◌ {A = Rebased × State} (x, s₁) (run_t at (rebase_static base) (b.window, t)))
    {n : ℕ} {s₂ : State} {records names : List ℕ} (e : ◌≡◌ {A = EntryResult} (n, s₂, records, names) (record_added at b.records b.names base size true x s₁)) where
  pub initialize-refused
      : (n ≡ 0 → ⊥) → leaves n 0 s₂ records names b.missing ≡ traced (initialize base size) (up_to_reset (rebase_static base) base) at b t
  unfolding initialize
  initialize-refused k = refused at b t (rebase_static base) base size true (λ s. initialized s base) ex e k

  pub initialize-done
      : is_register b.records b.names b.missing ≡ true → n ≡ 0 → {s₃ : State} {records₃ : List ℕ} → s₃ ≡ (run_t at (clear_list_fields base) s₂).1
      → records₃ ≡ set_crs records base
      → leaves 0 0 s₃ records₃ names b.missing ≡ traced (initialize base size) (up_to_reset (rebase_static base) base) at b t
  unfolding initialize with_crs appended encode_names
  initialize-done v z {s₃} es er =
      let i = is_in at b t (rebase_static base) base size true (λ s. initialized s base) ex e z in
      let m = (run_t at (read_module base size true) (run_t at (reset_external_relocations base) s₁).1).0 in
      let r = with_crs (appended (lent_register b) m) base in
      finishes (initialize base size) (up_to_reset (rebase_static base) base) at b t r 0 s₃
      (unhung_then at base (lent_register b) m s₂ es
      ∙ sym (i.same (initialized (lent_register b) base))
      ∙ comes at b t (rebase_static base) base size true (λ s. initialized s base) ex)
      (er ∙ ap (λ l. set_crs l base) i.records_now ∙ crs-stored (length b.records) base (appended (lent_register b) m))
      i.names_now (missing_stored b.records b.names b.missing v r refl)

-- load
module _ (at : ℕ) (l : LoadArguments) (auto level : ℕ) (b : Buffers) (t : List ℕ) {x : Rebased} {s₁ : State}
    (ex : ◌≡◌ {A = Rebased × State} (x, s₁) (run_t at (rebase l) (b.window, t))) {n : ℕ} {s₂ : State} {records names : List ℕ}
    (e : ◌≡◌ {A = EntryResult} (n, s₂, records, names) (record_added at b.records b.names l.base l.size (not (eqb auto 0)) x s₁)) where
  abbrev then : Register → Module → Prog Answer
  then s = linked s l (not (eqb auto 0)) level

  abbrev loading : ℕ → ℕ → Register → Prog Answer
  loading = load l (not (eqb auto 0)) level

  pub load-refused : (n ≡ 0 → ⊥) → leaves n 0 s₂ records names b.missing ≡ traced loading (up_to_reset (rebase l) l.base) at b t
  unfolding load
  load-refused k = refused at b t (rebase l) l.base l.size (not (eqb auto 0)) then ex e k

  module _ (valid : is_register b.records b.names b.missing ≡ true) (z : n ≡ 0) (sw : Below 256 s₂.0) (sr : Below 256 b.records)
      (hb : l.base < 2 ^ 32) (hs : l.size < 2 ^ 32) where
    abbrev reset : State
    reset = (run_t at (reset_external_relocations l.base) s₁).1

    abbrev reading : Prog Module
    reading = read_module l.base l.size (not (eqb auto 0))

    abbrev m : Module
    m = (run_t at reading reset).0

    enters : RecordAdded at b l.base l.size (not (eqb auto 0)) s₁ x s₂ records names
    enters = is_in at b t (rebase l) l.base l.size (not (eqb auto 0)) then ex e z

    -- the record that was read after the reset
    kept : (is_register records names b.missing ≡ true) × (register_of records names b.missing ≡ appended (lent_register b) m)
    kept =
        let is-run : m ≡ (run at reading reset.0).0 = (reads_run_t at reading reset (read_module_reads l.base l.size (not (eqb auto 0)))).0 in
        let q = read_module_yields at l.base l.size (not (eqb auto 0)) hb hs reset.0 (rw enters.reset at sw) in
        appended_kept b.records b.names b.missing sr valid m (rw is-run q.0) (rw is-run q.1)
        (fits_means (length b.records) (length b.names) (lent_register b) m enters.fit) enters.records_now enters.names_now

    pub load_linkable
        : (is_register records names b.missing ≡ true)
        × ((u : ℕ) → u ≡ get_or (settled (words_in b.records)) 3 0 → LastRecord records names u)
    unfolding appended
    load_linkable = (
      kept.0,
      λ u eu.
          record {
            before = (lent_register b).modules;
            last = m;
            all = sym (modules_are records names b.missing) ∙ ap (λ (q : Register). q.modules) kept.1;
            there = used-place b.records b.names b.missing valid eu;
          },
    )

    pub load-done
        : {u k : ℕ} {s₅ : State} {rs ms : List ℕ} → u ≡ get_or (settled (words_in b.records)) 3 0
        → ((old : Register) (new : Module) → register_of records names b.missing ≡ appended old new → u ≡ place_after 32 old.modules
        → LinkLeaves at old l (not (eqb auto 0)) level new s₂ k s₅ rs names ms)
        → Below 256 rs → length rs ≡ length b.records → leaves 0 k s₅ rs names ms ≡ traced loading (up_to_reset (rebase l) l.base) at b t
    unfolding load encode_names missing_now appended
    load-done {k = k} {s₅ = s₅} {rs = rs} {ms = ms} eu h s el =
        let o = h (lent_register b) m kept.1 (used-place b.records b.names b.missing valid eu) in
        let a = missing_now (appended (lent_register b) m) o.kept in
        finishes loading (up_to_reset (rebase l) l.base) at b t a k s₅
        (sym o.same ∙ sym (enters.same (then (lent_register b)))
        ∙ comes at b t (rebase l) l.base l.size (not (eqb auto 0)) then ex)
        (register_exact rs names ms a (length b.records) s o.noted.0 o.noted.1 (one_more (lent_register b) m o.kept) el)
        enters.names_now (missing_stored rs names ms o.noted.0 a (sym (ap (λ (q : Register). q.missing) o.noted.1)))

-- unload
module _ (at base : ℕ) (b : Buffers) (t : List ℕ) (v : is_register b.records b.names b.missing ≡ true) {x : Option ℕ}
    (ex : (names : List ℕ) → Encoded b.records names → x ≡ place_from 32 (modules_of b.records names) (has_base base)) where
  abbrev unloading : ℕ → ℕ → Register → Prog Answer
  unloading records names = unload base

  first : x ≡ place_from 32 (modules_of b.records b.names) (has_base base)
  first = ex b.names (b.missing, v)

  pub unload_none : x ≡ None → leaves 0 0 (b.window, t) b.records b.names b.missing ≡ traced unloading (ret tt) at b t
  unfolding traced unload leave run_t outcome_of number value register_after counted
  unload_none z =
      let n : first_with_base base (lent_register b).modules 0 ≡ unknown =
      rw (modules_are b.records b.names b.missing) (left_by_lem.no_first base 32 0 (modules_of b.records b.names) (sym first ∙ z)) in
      sym (ap (λ (k : FirstWithBase). let y = run_t at (leave (lent_register b) base k) (b.window, t) in
      (outcome_of b (y.0, y.1.0), counted y.0 t y.1.1)) n)

  module _ (place : ℕ) (z : x ≡ Some place) where
    pub unload_stands : RecordOfRegister b.records b.names place
    unload_stands = left_by_lem.standing b.records b.names b.missing v base place (sym z ∙ first)

    pub unload_sorted : Sorted b.records b.names place
    unload_sorted = sorted_at (first-placed b.records b.names (has_base base) (b.missing, v) (sym first ∙ z)).stands

    pub unload-done
        : {s₁ s₂ s₃ : State} {rs ns : List ℕ}
        → s₁ ≡ (run_t at (reset_importers (module_at b.records b.names place) (other_than place 32 (modules_of b.records b.names))) (b.window, t)).1
        → s₂ ≡ (run_t at (unlisted (header_crs b.records) base) s₁).1 → s₃ ≡ (run_t at (unrebase base) s₂).1
        → ((s : RecordOfRegister b.records b.names place) → ◌≡◌ {A = List ℕ × List ℕ} (rs, ns) (remaining s))
        → leaves 0 1 s₃ rs ns b.missing ≡ traced unloading (ret tt) at b t
    unfolding unload remaining removed
    unload-done {s₃ = s₃} e₁ e₂ e₃ h =
        let k = left_by_lem.number b.records b.names b.missing v base place (sym z ∙ first) in
        let a = removed (lent_register b) k in
        let y = h (left_by_lem.standing b.records b.names b.missing v base place (sym z ∙ first)) in
        finishes unloading (ret tt) at b t a 1 s₃
        (sym (left_by_lem.left_is b.records b.names b.missing v base place (sym z ∙ first) at (b.window, t) e₁ e₂ e₃))
        (ap (λ (p : List ℕ × List ℕ). p.0) y) (ap (λ (p : List ℕ × List ℕ). p.1) y)
        (missing_stored b.records b.names b.missing v a refl)
