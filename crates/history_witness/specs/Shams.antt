-- "Which sham linkers come closest?": document 01's six, none of which meets demand 3. Four are refuted by the outcomes, two by the
-- import clause alone, each in a session of the witness whose last call the sham makes in its own way.
use Rattle.std.specs.Prelude.{if◌then◌else◌, ℕ, ◌≡◌, Bool, ◌||◌, eqb, Some, None}
use Rattle.std.proofs.Math.Path.{refl}
use Rattle.std.proofs.Common.{sym, ap, ◌∙◌, arith}
use mathlib.Core.List.{List, [], ◌∷◌, map}
use Rattle.std.proofs.Math.Bool.{true, false}
use Rattle.window.specs.Memory.{byte_at}
use Rattle.linker_spec.specs.declared.call.Call.{Call}
use Rattle.linker_spec.specs.declared.call.Call.TheVariants.{Initialize, Load, Unload}
use Rattle.linker_spec.specs.Outcome.{Buffers, Outcome, call_outcome}
use Rattle.linker_spec.specs.Calls.{Answer, NotLoaded, Done, FirstWithBase, unknown, stands, first_with_base, unlisted, number}
use Rattle.linker_spec.specs.Unrebase.{unrebase}
use Rattle.window.specs.Access.{Prog, ret, ◌>>◌}
use Rattle.register.specs.Module.{Register}
use Rattle.register.specs.Change.{removed}
use Rattle.window.specs.Memory.{◌⊕◌}
use Rattle.window.specs.Mirror.{word}
use Rattle.layout.specs.Format.{relocation_type}
use Rattle.layout.specs.Relocation.Relocation.{relocated_word}
use Rattle.history.specs.Image.{externals, name_of, tag, kind, addend}
use Rattle.history.specs.Imports.{named, IsImport, wanted, Exports, Exporter, Holds}
use Rattle.history.specs.LoadedModule.{Image, image_of, address, handler, export_of}
use Rattle.history.specs.Sessions as sessions
use Rattle.history.specs.Sessions.{given, CallRecord, expected, unfit, own, comes, brought, loaded_modules, others, stay, standing, Next, Trace}
use Rattle.history.specs.Outcomes.{Linker, Made, Follows}
use Rattle.history.specs.Below.{Each}
use Rattle.history.specs.Demand3.{Harmless, CrsFirst, InWindow, Premises, images, bytes_left, bytes_after, ImportClause, AllHold, Linked, Demand3}
use Rattle.history_witness.specs.Exact.{Exact, came, brings, stood, ours, came_are, stood_are, front, not_both, Ordered, premises_of, windows_of}
use Rattle.history_witness.specs.Image.{cro, n-words, change, c-linked, m-linked, n_loaded, lent-words, page}
use Rattle.history_witness.specs.Open.{opened}
use Rattle.history_witness.specs.Tested.{tested}
use Rattle.history_witness.specs.Items.{items}
use Rattle.history_witness.specs.FirstEntry.{first_entry_only, first_entry_steps}
use Rattle.history_witness.specs.PageBefore.{at, stored}
use Rattle.history_witness.specs.Computed.{c_module, m_module, n_module, register, small, large, short, b₀, b₁, b₂, b₃, done, shown, o₁, o₂, o₃, o₄, o₅, o₆, o₇, refused}
use Rattle.history_witness.specs.Sessions.{t₁, t₂, t₃, t₄, t₅, t₆, t₇, t₈, exact_a, c, m, n, C, M, N, c_is, m_is, n_is}
use Rattle.history_witness.specs.Premises.{trace_a, suits_three, windows_a, long, three, quiet-a, crs-first-a}

abbrev two : List Image
two = C ∷ M ∷ []

-- the same call of the same bytes, which gave something else
abbrev pub told : CallRecord → Outcome → CallRecord
told t o = record { call = t.call; at = t.at; before = t.before; gave = o }

-- that is still a session, and the premises are still met: they read the definition
module _ (t : CallRecord) (ts : List CallRecord) (o : Outcome) where
  trace_told : (at : ℕ) → Trace at (t ∷ ts) → Trace at (told t o ∷ ts)
  unfolding Trace Next unfit
  trace_told at h = h

  window_told : (b : Bool) (us : List CallRecord) (a : Image) → InWindow (if b then us else t ∷ us) a → InWindow (if b then us else told t o ∷ us) a
  unfolding InWindow
  window_told true us a h = h
  window_told false us a h = h

  windows_told
      : (b : Bool) (us : List CallRecord) (S : List Image) → Each (InWindow (if b then us else t ∷ us)) S
      → Each (InWindow (if b then us else told t o ∷ us)) S
  unfolding Each
  windows_told b us [] h = tt
  windows_told b us (a ∷ S) h = (window_told b us a h.0, windows_told b us S h.1)

  premises_told : Premises (t ∷ ts) → Premises (told t o ∷ ts)
  unfolding Each Harmless CrsFirst loaded_modules brought sessions.done own unfit
  premises_told h =
      record {
        harmless = h.harmless;
        crs-first = h.crs-first;
        auto_linked = h.auto_linked;
        imports_kept = h.imports_kept;
        base-not_0 = h.base-not_0;
        in_window = windows_told (unfit t) (own ts) (images (t ∷ ts)) h.in_window;
        areas_apart = h.areas_apart;
        other-names = h.other-names;
        other_exports = h.other_exports;
        exports_once = h.exports_once;
        well_laid = h.well_laid;
      }

  standing-told : standing (told t o ∷ ts) ≡ standing (t ∷ ts)
  unfolding standing brought sessions.done
  standing-told = refl

  bytes-told
      : expected t ≡ t.gave → (eqb t.gave.number 3 || eqb t.gave.number 4) ≡ false
      → bytes_after (told t o ∷ ts) ≡ byte_at t.at o.left.window
  unfolding own unfit bytes_left number
  bytes-told e h = rw (e, h) refl

-- no call at all
none : Premises []
unfolding Each loaded_modules Ordered
none = premises_of [] [] tt refl (front [] three suits_three) tt tt tt

gives : (L : Linker) (at : ℕ) (ts : List CallRecord) → Trace at ts → Made L ts → Premises ts → Demand3 L → Made Follows ts × Linked ts
unfolding Demand3 Trace Each
gives L at ts x m p d = (d at at ts [] x tt m tt p none).0

-- the first calls of the session: before the CRS; the CRS; `m`; `n`; the refused load and the unload
abbrev s₁ : List CallRecord
s₁ = t₁ ∷ []

abbrev s₃ : List CallRecord
s₃ = t₃ ∷ t₂ ∷ s₁

abbrev s₄ : List CallRecord
s₄ = t₄ ∷ s₃

abbrev s₅ : List CallRecord
s₅ = t₅ ∷ s₄

abbrev s₆ : List CallRecord
s₆ = t₆ ∷ s₅

abbrev s₈ : List CallRecord
s₈ = t₈ ∷ t₇ ∷ s₆

-- that each of them tells what the definition gives
exact₈ : Exact s₈
unfolding Each
exact₈ = exact_a.1

exact₆ : Exact s₆
unfolding Each
exact₆ = exact₈.1.1

exact₅ : Exact s₅
unfolding Each
exact₅ = exact₆.1

exact₄ : Exact s₄
unfolding Each
exact₄ = exact₅.1

exact₁ : Exact s₁
unfolding Each
exact₁ = exact₄.1.1.1

-- and meets the premises
images_are : (ts : List CallRecord) {S : List Image} → Exact ts → map image_of (came ts) ≡ S → images ts ≡ S
images_are ts e h = rw (came_are ts e) h

premises₁ : Premises s₁
unfolding Each Ordered came brings
premises₁ =
    premises_of s₁ [] exact₁ (images_are s₁ exact₁ refl) (front [] three suits_three) quiet-a.1.1.1.1.1.1.1.1
    crs-first-a.1.1.1.1.1.1.1.1 tt

premises₄ : Premises s₄
unfolding Each Ordered ours came brings comes
premises₄ =
    premises_of s₄ (C ∷ []) exact₄ (images_are s₄ exact₄ (rw c_is refl)) (front (C ∷ []) (M ∷ N ∷ []) suits_three)
    quiet-a.1.1.1.1.1 crs-first-a.1.1.1.1.1 (windows_of t₄ _ 4096 (C ∷ []) long.0 (windows_a.0, tt))

premises₅ : Premises s₅
unfolding Each Ordered ours came brings comes
premises₅ =
    premises_of s₅ two exact₅ (images_are s₅ exact₅ (rw (c_is, m_is) refl)) (front two (N ∷ []) suits_three) quiet-a.1.1.1.1
    crs-first-a.1.1.1.1 (windows_of t₅ _ 4096 two long.1 (windows_a.0, (windows_a.1.0, tt)))

premises₆ : Premises s₆
unfolding Each Ordered ours came brings comes
premises₆ =
    premises_of s₆ three exact₆ (images_are s₆ exact₆ (rw (c_is, m_is, n_is) refl)) suits_three quiet-a.1.1.1
    crs-first-a.1.1.1 (windows_of t₆ _ 4096 three long.2 windows_a)

premises₈ : Premises s₈
unfolding Each Ordered ours came brings comes
premises₈ =
    premises_of s₈ three exact₈ (images_are s₈ exact₈ (rw (c_is, m_is, n_is) refl)) suits_three quiet-a.1
    crs-first-a.1 (windows_of t₈ _ 4096 three long.3 windows_a)

-- a linker that gives something else in the place of what the definition gives
abbrev Alteration : Type 0
Alteration = Call → Buffers → Outcome → Outcome

abbrev pub Sham : Alteration → Linker
Sham g c at b o = o ≡ g c b (given c at b)

abbrev changed : Alteration → CallRecord → Outcome
changed g t = g t.call t.before t.gave

module _ (g : Alteration) where
  made_same : (ts : List CallRecord) → Exact ts → Each (λ t. changed g t ≡ t.gave) ts → Made (Sham g) ts
  unfolding Each
  made_same [] e h = tt
  made_same (t ∷ ts) e h = (sym h.0 ∙ rw (← e.0) refl, made_same ts e.1 h.1)

  -- its last call is not what the definition gives
  by_outcome
      : (t : CallRecord) (ts : List CallRecord) → Exact (t ∷ ts) → Trace at (t ∷ ts) → Premises (t ∷ ts) → Each (λ t. changed g t ≡ t.gave) ts
      → ((changed g t).number ≡ t.gave.number → (changed g t).value ≡ t.gave.value → ⊥) → Demand3 (Sham g) → ⊥
  unfolding Each
  by_outcome t ts e x p s n d =
      let f : Made Follows (told t (changed g t) ∷ ts) =
      (gives (Sham g) at (told t (changed g t) ∷ ts) (trace_told t ts (changed g t) at x) (rw e.0 refl, made_same ts e.1 s)
      (premises_told t ts (changed g t) p) d).0 in
      n (ap (λ o. o.number) (f.0 ∙ e.0)) (ap (λ o. o.value) (f.0 ∙ e.0))

-- the session's first calls are sessions
trace₈ : Trace at s₈
unfolding Trace
trace₈ = trace_a.2

trace₆ : Trace at s₆
unfolding Trace
trace₆ = trace₈.2.2

trace₅ : Trace at s₅
unfolding Trace
trace₅ = trace₆.2

trace₄ : Trace at s₄
unfolding Trace
trace₄ = trace₅.2

trace₁ : Trace at s₁
unfolding Trace
trace₁ = trace₄.2.2.2

-- "one answering 5 while bytes are free": where a module would come
unfoldable pub full_while_free : Alteration
full_while_free (Initialize base size) b o = if eqb o.number 0 then refused 5 b else o
full_while_free (Load l auto level) b o = if eqb o.number 0 then refused 5 b else o
full_while_free (Unload base) b o = o

pub full_while_free_fails : Demand3 (Sham full_while_free) → ⊥
unfolding full_while_free Each
full_while_free_fails = by_outcome full_while_free t₄ s₃ exact₄ trace₄ premises₄ (refl, (refl, (refl, tt))) (λ e h. omega arith)

-- "one inventing the fixed size"
unfoldable pub invented_size : Alteration
invented_size (Initialize base size) b o = o
invented_size (Load l auto level) b o = record { number = o.number; value = if eqb o.number 0 then 4096 else 0; left = o.left }
invented_size (Unload base) b o = o

pub invented_size_fails : Demand3 (Sham invented_size) → ⊥
unfolding invented_size Each
invented_size_fails = by_outcome invented_size t₅ s₄ exact₅ trace₅ premises₅ (refl, (refl, (refl, (refl, tt)))) (λ e h. omega arith)

-- "one always returning 0; one always 2"
unfoldable pub always : ℕ → Alteration
always n c b o = record { number = n; value = o.value; left = o.left }

pub always_0_fails : Demand3 (Sham (always 0)) → ⊥
unfolding always Each
always_0_fails = by_outcome (always 0) t₁ [] exact₁ trace₁ premises₁ tt (λ e h. omega arith)

pub always_2_fails : Demand3 (Sham (always 2)) → ⊥
unfolding always Each
always_2_fails = by_outcome (always 2) t₁ [] exact₁ trace₁ premises₁ tt (λ e h. omega arith)

-- what the import clause says of a last call: of the modules that stand and the bytes that it leaves
held
    : (t : CallRecord) (ts : List CallRecord) (o : Outcome) (S : List Image) → Exact (t ∷ ts) → map image_of (stood (t ∷ ts)) ≡ S
    → (eqb t.gave.number 3 || eqb t.gave.number 4) ≡ false → Linked (told t o ∷ ts) → AllHold S (byte_at t.at o.left.window)
unfolding Each Linked
held t ts o S e i u l = rw (standing-told t ts o, stood_are (t ∷ ts) e, i, bytes-told t ts o e.0 u) at l.0

-- a linker that gives what f computes
module _ (f : Call → ℕ → Buffers → Outcome) where
  abbrev pub Computes : Linker
  Computes c at b o = o ≡ f c at b

  made_computed : (ts : List CallRecord) → Each (λ t. f t.call t.at t.before ≡ t.gave) ts → Made Computes ts
  unfolding Each
  made_computed [] h = tt
  made_computed (t ∷ ts) h = (sym h.0, made_computed ts h.1)

  by_imports
      : (t : CallRecord) (ts : List CallRecord) (o : Outcome) → Trace at (t ∷ ts) → Premises (t ∷ ts)
      → Each (λ t. f t.call t.at t.before ≡ t.gave) (told t o ∷ ts) → (Linked (told t o ∷ ts) → ⊥) → Demand3 Computes → ⊥
  by_imports t ts o x p h u d =
      u (gives Computes at (told t o ∷ ts) (trace_told t ts o at x) (made_computed (told t o ∷ ts) h) (premises_told t ts o p) d).1

-- the import `g` of `m`, and the second entry of its batch, of kind 10
g_import : IsImport M.file (named 1)
unfolding opened shown tested
g_import = omega arith

g-name : name_of M.file (wanted M.file (named 1)) ≡ 0x67 ∷ []
unfolding opened shown tested
g-name = refl

g-address : address M (tag M.file externals 2) ≡ Some 0x100408
unfolding opened shown tested
g-address = refl

g-word : (symbol : ℕ) → relocated_word (relocation_type (kind M.file externals 2)) (addend M.file externals 2) symbol 0x100408 ≡ Some (symbol ⊕ 8)
unfolding opened shown tested
g-word symbol = refl

g-holds : (B : ℕ → ℕ) (symbol : ℕ) → Holds B M (named 1) symbol → word B 0x100408 ≡ symbol ⊕ 8
unfolding Holds
g-holds B symbol h = h 1 2 2 items.batch (omega arith) (omega arith) 0x100408 (symbol ⊕ 8) g-address (g-word symbol)

-- without `n` nobody exports it
g_nowhere : (export_of C (0x67 ∷ []) ≡ None) × (export_of M (0x67 ∷ []) ≡ None)
unfolding opened shown tested
g_nowhere = (refl, refl)

no_exporter : (x : Image) → export_of x (0x67 ∷ []) ≡ None → (p : ℕ) → Exporter x M (named 1) p → ⊥
unfolding Exporter Exports
no_exporter x h p e =
    let y : export_of x (0x67 ∷ []) ≡ Some p = rw g-name at e.0 in
    let z : ◌≡◌ {A = ℕ} 0 1 = cc in
    omega arith

-- "one that unloads without resetting": the program but for that line
unfoldable pub leave : Register → ℕ → FirstWithBase → Prog Answer
leave r base unknown = ret NotLoaded
leave r base (stands m k) = do
  unlisted r.crs base
  unrebase base
  ret (Done 1 (removed r k))

unfoldable pub without_resets : Call → ℕ → Buffers → Outcome
without_resets (Initialize base size) at b = given (Initialize base size) at b
without_resets (Load l auto level) at b = given (Load l auto level) at b
without_resets (Unload base) at b = call_outcome (λ records names r. leave r base (first_with_base base r.modules 0)) at b

-- what it leaves: the words of `g` are still those that `n` gave
abbrev left₅ : Buffers
left₅ =
    stored 192 8 (register (c_module ∷ m_module ∷ []) ((0x67 ∷ []) ∷ []))
    (page c-linked (change ((0x088, 0) ∷ (0x08c, 0x100200) ∷ []) m-linked) n-words (lent-words 0x100584 0x100580))

unload-left : without_resets (Unload 0x100420) at b₃ ≡ done 1 left₅
unfolding opened shown without_resets leave
unload-left = refl

unload-short : without_resets (Unload 0x100420) at short ≡ refused 3 short
unfolding opened shown without_resets leave
unload-short = refl

left_word : word (byte_at at left₅.window) 0x100408 ≡ 0x100584
unfolding opened shown tested
left_word = refl

pub without_resets_unlinked : Linked (told t₈ (done 1 left₅) ∷ t₇ ∷ s₆) → ⊥
unfolding Each stood stay others brings comes AllHold ImportClause
without_resets_unlinked l =
    let h : AllHold two (byte_at at left₅.window) = held t₈ (t₇ ∷ s₆) (done 1 left₅) two exact₈ (rw (c_is, m_is) refl) refl l in
    let k : Holds (byte_at at left₅.window) M (named 1) (handler M) =
    (h.1.0.0 (named 1) g_import).1 (no_exporter C g_nowhere.0, (no_exporter M g_nowhere.1, tt)) in
    let w = g-holds _ (handler M) k in
    omega (arith, w, left_word, items.handled)

pub without_resets_fails : Demand3 (Computes without_resets) → ⊥
unfolding without_resets Each
without_resets_fails =
    by_imports without_resets t₈ (t₇ ∷ s₆) (done 1 left₅) trace₈ premises₈
    (unload-left, (o₇, (o₆, (o₅, (o₄, (o₃, (unload-short, (o₁, tt)))))))) without_resets_unlinked

-- "One patching a batch's first entry and marking it resolved": the second word of `g` is still the handler's
abbrev left₆ : Buffers
left₆ =
    stored 192 8 (register (c_module ∷ m_module ∷ n_module ∷ []) ((0x67 ∷ []) ∷ []))
    (page c-linked (change ((0x208, 0x100408) ∷ []) m-linked) n_loaded (lent-words 0x100584 0x100580))

load-left : first_entry_only (Load (small 0x100420 0x168) 1 0) at b₂ ≡ done 0 left₆
unfolding opened shown first_entry_steps
load-left = refl

load-first : first_entry_only (Load large 1 1) at (b₁ cro) ≡ done 0x210 b₂
unfolding opened shown first_entry_steps
load-first = refl

load-refused : first_entry_only (Load large 1 1) at b₀ ≡ refused 1 b₀
unfolding opened shown first_entry_steps
load-refused = refl

second_word : word (byte_at at left₆.window) 0x100408 ≡ 0x100408
unfolding opened shown tested
second_word = refl

n_exports : Exporter N M (named 1) 0x10057c
unfolding Exporter Exports
n_exports = (rw g-name items.by_name, (λ e. not_both false e refl))

pub first-entry_unlinked : Linked (told t₆ (done 0 left₆) ∷ s₅) → ⊥
unfolding Each stood stay brings comes AllHold ImportClause
first-entry_unlinked l =
    let h : AllHold three (byte_at at left₆.window) = held t₆ s₅ (done 0 left₆) three exact₆ (rw (c_is, m_is, n_is) refl) refl l in
    let k : Holds (byte_at at left₆.window) M (named 1) 0x10057c = (h.1.0.0 (named 1) g_import).0.1.1.0 0x10057c n_exports in
    let w = g-holds _ 0x10057c k in
    omega (arith, w, second_word)

pub first-entry_fails : Demand3 (Computes first_entry_only) → ⊥
unfolding first_entry_only Each
first-entry_fails =
    by_imports first_entry_only t₆ s₅ (done 0 left₆) trace₆ premises₆
    (load-left, (load-first, (o₄, (o₃, (o₂, (load-refused, tt)))))) first-entry_unlinked
