-- A module that has its record: what linking it leaves.
use Rattle.std.specs.Prelude.{◌≡◌, ℕ, ◌<◌, Bool, List, [], ◌∷◌, ◌++◌, length, slice_index, Option, Some, None}
use Rattle.std.proofs.Math.Path.{sym, ap}
use Rattle.std.proofs.Common.{◌∙◌, subst, arith, length-append}
use Rattle.window.specs.Access.{ret}
use Rattle.window.specs.Trace.{State, run_t}
use Rattle.window.specs.TraceRuns.{seq, gives}
use Rattle.register.specs.Words.{words_in}
use Rattle.register.specs.Module.{Module, Register}
use Rattle.register.specs.Decode.{read_crs, register_of}
use Rattle.register.specs.Change.{appended}
use Rattle.register.specs.Read.Read.{Encoded, modules_of, module_at, place_after, Sorted}
use Rattle.register.specs.Read.Places.{sorted_at, RecordsStand, stands_at}
use Rattle.register.specs.Read.Encoded.{modules_stand}
use Rattle.linker_spec.specs.declared.rebase.LoadArguments.{LoadArguments}
use Rattle.linker_spec.specs.Imports.{apply_import_named_symbols, apply_module_imports, apply_exports_to_loaded}
use Rattle.linker_spec.specs.Lists.{register}
use Rattle.linker_spec.specs.Fix.{fix}
use Rattle.linker_spec.specs.Calls.{Answer, Done, listed, missing_now, linked}
use Rattle.linker.specs.Imports.Missing.{imported, MissingAdded}
use Rattle.linker.specs.Imports.Modules.{but_last, new_is_last, modules_are}
use Rattle.linker.specs.Calls.Stored.{crs_is}

-- the register's CRS, from its header words
abbrev pub header_crs : List ℕ → Option ℕ
header_crs records = read_crs (slice_index (words_in records) 1) (slice_index (words_in records) 2)

pub listed_none : (at base : ℕ) (auto : Bool) (s : State) {c : Option ℕ} → c ≡ None → s ≡ (run_t at (listed c base auto) s).1
unfolding listed run_t
listed_none at base auto s e = rw e

pub listed_known
    : (at base : ℕ) (auto : Bool) (s : State) {c : Option ℕ} (crs : ℕ) {u : State} → c ≡ Some crs → u ≡ (run_t at (register crs base auto) s).1
    → u ≡ (run_t at (listed c base auto) s).1
unfolding listed
listed_known at base auto s crs e h = rw e h

-- the record of the last module begins at byte `place`
pub record LastRecord (records names : List ℕ) (place : ℕ) : Type 0 where
  pub before : List Module
  pub last : Module
  pub all : modules_of records names ≡ before ++ (last ∷ [])
  pub there : place ≡ place_after 32 before

-- a number, window and trace, and the bytes that linking leaves, m having been appended to r
pub record LinkLeaves (at : ℕ) (r : Register) (l : LoadArguments) (auto : Bool) (level : ℕ) (m : Module) (s : State)
    (n : ℕ) (left : State) (records names missing : List ℕ) : Type 0 where
  pub kept : List (List ℕ)
  pub same : ◌≡◌ {A = Answer × State} (run_t at (linked r l auto level m) s) (Done n (missing_now (appended r m) kept), left)
  pub noted : MissingAdded (appended r m) records names missing kept

module _ (at : ℕ) (records names missing : List ℕ) (l : LoadArguments) (auto : Bool) (level : ℕ) (s : State) {s₁ : State}
    (e₁ : s₁ ≡ (run_t at (listed (header_crs records) l.base auto) s).1) {s₂ : State} (rs ms : List ℕ)
    (e₂ : let r = register_of records names missing in
    let x = run_t at (apply_import_named_symbols r.modules l.base r.missing) s₁ in
    (◌≡◌ {A = State × List ℕ × List ℕ} (s₂, rs, ms) (imported r records x)) × MissingAdded r rs names ms x.0) where
  pub still_encoded : Encoded rs names
  still_encoded = (ms, e₂.1.0)

  -- names added to the missing ones leave the records where they are
  pub still_sorted : {place : ℕ} → LastRecord records names place → Sorted rs names place
  unfolding missing_now
  still_sorted d =
      let m : modules_of rs names ≡ d.before ++ (d.last ∷ []) =
      sym (modules_are rs names ms) ∙ ap (λ (q : Register). q.modules) e₂.1.1 ∙ modules_are records names missing ∙ d.all in
      rw d.there (sorted_at (stands_at d.before [] (subst (RecordsStand rs names 32) m (modules_stand rs names ms e₂.1.0))))

  module _ {s₃ : State} (e₃ : s₃ ≡ (run_t at (apply_module_imports (modules_of rs names) l.base) s₂).1) (place : ℕ) {s₄ : State}
      (e₄ : s₄ ≡ (run_t at (apply_exports_to_loaded (module_at rs names place) (but_last (modules_of rs names))) s₃).1) {n : ℕ} {s₅ : State}
      (e₅ : ◌≡◌ {A = ℕ × State} (n, s₅) (run_t at (fix l.base l.size level) s₄))
      (r : Register) (m : Module) (er : register_of records names missing ≡ appended r m) (ep : place ≡ place_after 32 r.modules) where
    abbrev found : List (List ℕ) × State
    found = run_t at (apply_import_named_symbols (appended r m).modules l.base (appended r m).missing) s₁

    named : (◌≡◌ {A = State × List ℕ × List ℕ} (s₂, rs, ms) (imported (appended r m) records found)) × MissingAdded (appended r m) rs names ms found.0
    named =
        subst (λ (q : Register). (◌≡◌ {A = State × List ℕ × List ℕ} (s₂, rs, ms)
        (imported q records (run_t at (apply_import_named_symbols q.modules l.base q.missing) s₁)))
        × MissingAdded q rs names ms (run_t at (apply_import_named_symbols q.modules l.base q.missing) s₁).0) er e₂

    modules : modules_of rs names ≡ r.modules ++ (m ∷ [])
    unfolding missing_now appended
    modules = sym (modules_are rs names ms) ∙ ap (λ (q : Register). q.modules) named.1.1

    last : (but_last (modules_of rs names) ≡ r.modules) × (module_at rs names (place_after 32 r.modules) ≡ m)
    last = new_is_last rs names still_encoded r.modules m modules

    crs : header_crs records ≡ r.crs
    unfolding appended
    crs = sym (crs_is records names missing) ∙ ap (λ (q : Register). q.crs) er

    pub links : LinkLeaves at r l auto level m s n s₅ rs names ms
    unfolding linked appended run_t
    links =
        let h₁ : s₁ ≡ (run_t at (listed r.crs l.base auto) s).1 = e₁ ∙ ap (λ c. (run_t at (listed c l.base auto) s).1) crs in
        let h₂ : ◌≡◌ {A = List (List ℕ) × State} (found.0, s₂) found = ap (λ (z : State × List ℕ × List ℕ). (found.0, z.0)) named.0 in
        let h₃ : s₃ ≡ (run_t at (apply_module_imports (r.modules ++ (m ∷ [])) l.base) s₂).1 =
        e₃ ∙ ap (λ t. (run_t at (apply_module_imports t l.base) s₂).1) modules in
        let h₄ : s₄ ≡ (run_t at (apply_exports_to_loaded m r.modules) s₃).1 =
        e₄
        ∙ ap (λ p. (run_t at (apply_exports_to_loaded (module_at rs names p) (but_last (modules_of rs names))) s₃).1) ep
        ∙ ap (λ t. (run_t at (apply_exports_to_loaded t (but_last (modules_of rs names))) s₃).1) last.1
        ∙ ap (λ t. (run_t at (apply_exports_to_loaded m t) s₃).1) last.0 in
        record {
          kept = found.0;
          same =
              sym (gives at (fix l.base l.size level) s₄ (λ k. ret (Done k (missing_now (appended r m) found.0))) e₅
              ∙ seq at (apply_exports_to_loaded m r.modules) s₃ _ h₄
              ∙ seq at (apply_module_imports (r.modules ++ (m ∷ [])) l.base) s₂ _ h₃
              ∙ gives at (apply_import_named_symbols (r.modules ++ (m ∷ [])) l.base r.missing) s₁ _ h₂
              ∙ seq at (listed r.crs l.base auto) s _ h₁);
          noted = named.1;
        }

pub one_more : (r : Register) (m : Module) (kept : List (List ℕ)) → 0 < length (missing_now (appended r m) kept).modules
unfolding missing_now appended
one_more r m kept = omega (arith, length-append r.modules (m ∷ []))
