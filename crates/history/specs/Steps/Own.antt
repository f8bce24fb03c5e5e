-- The links of a new module at rest: each of its imports got what the register's records say of the modules that stand.
use Rattle.std.specs.Prelude.{if◌then◌else◌, ℕ, zero, suc, ◌<◌, ◌≡◌, ◌⊎◌, List, [], ◌∷◌, Bool, true, false, length, Option, Some, None}
use Rattle.std.proofs.Math.Path.{refl, sym, ap}
use Rattle.std.proofs.Common.{◌∙◌, inl, inr, arith}
use Rattle.window.specs.Within.{Low}
use Rattle.window.specs.Mirror.{word}
use Rattle.register.specs.Words.{same}
use Rattle.register.specs.Lists.{same_true, same_refl}
use Rattle.register.specs.Module.{Module}
use Rattle.register.specs.Read.Read as read
use Rattle.register.specs.Read.Read.{or_else, lookup_in}
use Rattle.linker_spec.specs.Imports.{module_by_name}
use Rattle.history.specs.Image.{module_entries, count, entry, name_of, module_name}
use Rattle.history.specs.LoadedModule.{Image, is_crs, export_of, Area}
use Rattle.history.specs.Imports.{Import, named, indexed, anonymous, IsImport, wanted, InRun, From, Exports, Exporter}
use Rattle.history.specs.WellLaid.{WellLaid}
use Rattle.history.specs.Steps.Wp.{Memory}
use Rattle.history.specs.Steps.View.{View}
use Rattle.history.specs.Steps.Links.{Links}
use Rattle.history.specs.Steps.Changes.{Change}
use Rattle.history.specs.Steps.OneImport.{link_to}
use Rattle.history.specs.Steps.Records.{Recorded, export_for, ImportsFrom}
use Rattle.history.specs.Steps.Runs.{Begins, Linking}
use Rattle.history.specs.Steps.Entries.{no_run}
use Rattle.history.specs.Steps.Asking.{true_false, asks_entry}
use Rattle.history.specs.Steps.Importing.{export_from, NamedBegins, Run, BySource}
use Rattle.history.specs.Steps.LinksResolved.{LinksResolved, exports_offers, offers_exports, either}

-- the records are those of x 0, x 1 and so on
unfoldable pub RecordedAll : (ℕ → Image) → List Module → Type 0
RecordedAll x [] = Unit {0}
RecordedAll x (r ∷ rs) = Recorded (x 0) r × RecordedAll (λ k. x (suc k)) rs

-- a record that has no such symbol is passed over
pass : (y : Option ℕ) (s : Option ℕ) → ((p : ℕ) → y ≡ Some p → ⊥) → or_else y s ≡ s
unfolding or_else
pass (Some p) s o = absurd (o p refl)
pass None s o = refl

-- the first record's symbol, else that of the rest: all are auto-linked
lookup_more
    : (x : Image) (r : Module) (rs : List Module) (name : List ℕ) → Recorded x r
    → lookup_in (r ∷ rs) name ≡ or_else (export_of x name) (lookup_in rs name)
unfolding lookup_in
lookup_more x r rs name h =
    ap (λ b. if b then or_else (read.export_of r name) (lookup_in rs name) else lookup_in rs name) h.auto
    ∙ ap (λ y. or_else y (lookup_in rs name)) (h.exports name)

pub lookup_none
    : (x : ℕ → Image) (ms : List Module) (name : List ℕ) → RecordedAll x ms
    → ((k p : ℕ) → k < length ms → export_of (x k) name ≡ Some p → ⊥) → lookup_in ms name ≡ None
unfolding RecordedAll lookup_in
lookup_none x [] name h o = refl
lookup_none x (r ∷ rs) name h o =
    lookup_more (x 0) r rs name h.0
    ∙ pass (export_of (x 0) name) (lookup_in rs name) (λ p e. o 0 p (omega arith) e)
    ∙ lookup_none (λ k. x (suc k)) rs name h.1 (λ k p l e. o (suc k) p (omega arith) e)

-- at most one of the modules exports the name
pub lookup_found
    : (x : ℕ → Image) (ms : List Module) (name : List ℕ) → RecordedAll x ms
    → ((j k p q : ℕ) → j < length ms → k < length ms → export_of (x j) name ≡ Some p → export_of (x k) name ≡ Some q → j ≡ k)
    → (k p : ℕ) → k < length ms → export_of (x k) name ≡ Some p → lookup_in ms name ≡ Some p
unfolding RecordedAll or_else
lookup_found x [] name h o k p l e = absurd (omega arith)
lookup_found x (r ∷ rs) name h o zero p l e =
    lookup_more (x 0) r rs name h.0 ∙ ap (λ y. or_else y (lookup_in rs name)) e
lookup_found x (r ∷ rs) name h o (suc k) p l e =
    lookup_more (x 0) r rs name h.0
    ∙ pass (export_of (x 0) name) (lookup_in rs name) (λ q f. absurd (omega (arith, o 0 (suc k) q p (omega arith) l f e)))
    ∙ lookup_found (λ j. x (suc j)) rs name h.1
    (λ i j q t g s a b. let z : suc i ≡ suc j = o (suc i) (suc j) q t (omega arith) (omega arith) a b in omega (arith, z)) k p (omega arith) e

-- the first module of that name, if there is one
abbrev FirstNamed : (ℕ → Image) → List Module → List ℕ → Option Module → Type 0
FirstNamed x ms name o = ((k : ℕ) × (r : Module) × (k < length ms) × (module_name (x k).file ≡ name) × Recorded (x k) r × (o ≡ Some r)) ⊎ (o ≡ None)

source : (x : ℕ → Image) (ms : List Module) (name : List ℕ) → RecordedAll x ms → FirstNamed x ms name (module_by_name ms name)
unfolding RecordedAll module_by_name
source x [] name h = inr refl
source x (r ∷ rs) name h = go (same name r.name) refl (source (λ k. x (suc k)) rs name h.1)
  where
    go
        : (b : Bool) → same name r.name ≡ b → FirstNamed (λ k. x (suc k)) rs name (module_by_name rs name)
        → FirstNamed x (r ∷ rs) name (if b then Some r else module_by_name rs name)
    go true e s = inl (0, r, omega arith, sym (same_true name r.name e ∙ h.0.name), h.0, refl)
    go false e (inl s) = inl (suc s.0, s.1, omega (arith, s.2), s.3, s.4, s.5)
    go false e (inr s) = inr s

pub source_none
    : (x : ℕ → Image) (ms : List Module) (name : List ℕ) → RecordedAll x ms → ((k : ℕ) → k < length ms → module_name (x k).file ≡ name → ⊥)
    → module_by_name ms name ≡ None
source_none x ms name h o = go (source x ms name h)
  where
    go : FirstNamed x ms name (module_by_name ms name) → module_by_name ms name ≡ None
    go (inl s) = absurd (o s.0 s.2 s.3)
    go (inr s) = s

has_name_lem
    : (x : Image) (r : Module) (rs : List Module) (name : List ℕ) → Recorded x r → module_name x.file ≡ name
    → module_by_name (r ∷ rs) name ≡ Some r
unfolding module_by_name
has_name_lem x r rs name h e = rw (← e, h.name, same_refl (module_name x.file)) refl

has_not
    : (x : Image) (r : Module) (rs : List Module) (name : List ℕ) → Recorded x r → (module_name x.file ≡ name → ⊥)
    → module_by_name (r ∷ rs) name ≡ module_by_name rs name
unfolding module_by_name
has_not x r rs name h o = go (same name r.name) refl
  where
    go : (b : Bool) → same name r.name ≡ b → (if b then Some r else module_by_name rs name) ≡ module_by_name rs name
    go true e = absurd (o (sym (same_true name r.name e ∙ h.name)))
    go false e = refl

-- module names are pairwise different
pub source_found
    : (x : ℕ → Image) (ms : List Module) (name : List ℕ) → RecordedAll x ms
    → ((j k : ℕ) → j < length ms → k < length ms → module_name (x j).file ≡ module_name (x k).file → j ≡ k) → (k : ℕ) → k < length ms
    → module_name (x k).file ≡ name → (r : Module) × (module_by_name ms name ≡ Some r) × Recorded (x k) r
unfolding RecordedAll
source_found x [] name h o k l e = absurd (omega arith)
source_found x (r ∷ rs) name h o zero l e = (r, has_name_lem (x 0) r rs name h.0 e, h.0)
source_found x (r ∷ rs) name h o (suc k) l e =
    let s =
    source_found (λ j. x (suc j)) rs name h.1
    (λ i j g t a. let z : suc i ≡ suc j = o (suc i) (suc j) (omega arith) (omega arith) a in omega (arith, z)) k (omega arith) e in
    (s.0, has_not (x 0) r rs name h.0 (λ f. absurd (omega (arith, o 0 (suc k) (omega arith) l (f ∙ sym e)))) ∙ s.1, s.2)

-- n modules stand, the new one m among them, which is no CRS. Only one of them exports to an import, and no two have one name.
module _ (m : Image) (laid : WellLaid m) (low : Low (Area m)) {T : Memory} (view : View m T) (a b : ℕ) (n : ℕ) (x : ℕ → Image) (ms : List Module)
    (records : RecordedAll x ms) (few : length ms ≡ n) (no-crs : is_crs m.load_call ≡ false)
    (once : (i : Import) (j k p q : ℕ) → j < n → k < n → Exports (x j) m i p → Exports (x k) m i q → j ≡ k)
    (names : (j k : ℕ) → j < n → k < n → module_name (x j).file ≡ module_name (x k).file → j ≡ k) where
  abbrev F : ℕ → ℕ
  F = m.file

  abbrev LookedUp : Import → Option ℕ
  LookedUp i = lookup_in ms (name_of F (wanted F i))

  looked_found : (i k p : ℕ) → k < n → Exports (x k) m (named i) p → LookedUp (named i) ≡ Some p
  unfolding Exports
  looked_found i k p l h =
      lookup_found x ms (name_of F (wanted F (named i))) records
      (λ j k p q g s e f. once (named i) j k p q (rw (← few) g) (rw (← few) s) e f) k p (rw few l) h

  looked_none : (i : ℕ) → ((k : ℕ) → k < n → (p : ℕ) → Exports (x k) m (named i) p → ⊥) → LookedUp (named i) ≡ None
  unfolding Exports
  looked_none i o = lookup_none x ms (name_of F (wanted F (named i))) records (λ k p l e. o k (rw (← few) l) p e)

  -- what a record offers to an import in a run is what its module does
  offers : (j : ℕ) → j < count F module_entries → (y : Image) (r : Module) → Recorded y r → (i : Import) → InRun F j i
      → export_from F (Some r) i ≡ export_for y m i
  unfolding export_from export_for
  offers j l y r h (named i) d = absurd (no_run m laid low view a b j l i d)
  offers j l y r h (indexed i) d = h.indexes (wanted F (indexed i))
  offers j l y r h (anonymous i) d = h.anonymous (wanted F (anonymous i))

  module _ {φ ψ : Links} (c : Change (NamedBegins m laid low view a b ms) (Linking F LookedUp) (λ _. None) φ)
      (d : Change (Run m laid low view a b ms) (BySource m laid low view a b ms) φ ψ) where
    -- an import in a run is no named one
    not_named : (i : Import) → IsImport F i → (e : ℕ) → Begins F i e → (j : ℕ) → j < count F module_entries → InRun F j i → φ e ≡ None
    not_named i l e s j g r =
        c.same e
        (λ t.
        let z : i ≡ named t.0 = laid.alone.own-batch i (named t.0) l t.1 (s ∙ sym t.2) in
        no_run m laid low view a b j g t.0 (rw z at r))

    -- and a named one is in no run
    not-run : (i : ℕ) → IsImport F (named i) → (e : ℕ) → Begins F (named i) e → ψ e ≡ φ e
    not-run i l e s =
        d.same e
        (λ t.
        let z : t.2.0 ≡ named i = laid.alone.own-batch t.2.0 (named i) t.2.1 l (t.2.3 ∙ sym s) in
        no_run m laid low view a b t.0 t.1 i (rw z at t.2.2))

    -- an import whose module entry names module k
    by_entry
        : (i : Import) → IsImport F i → (e : ℕ) → Begins F i e → (k : ℕ) → k < n → (p : ℕ) → From F i (module_name (x k).file)
        → export_for (x k) m i ≡ Some p → ψ e ≡ Some p
    unfolding From link_to
    by_entry i l e s k g p (j, h, r, z) o =
        let t =
        source_found x ms (name_of F (word F (entry F module_entries j))) records (λ j k g s. names j k (rw (← few) g) (rw (← few) s)) k (rw few g) z in
        d.changed e (j, h, (i, l, r, s)) i l s j h r
        ∙ ap (λ y. link_to y (export_from F (module_by_name ms (name_of F (word F (entry F module_entries j)))) i)) (not_named i l e s j h r)
        ∙ ap (λ y. link_to None (export_from F y i)) t.1
        ∙ ap (link_to None) (offers j h (x k) t.0 t.2 i r ∙ o)

    found
        : (i : Import) → IsImport F i → (e : ℕ) → Begins F i e → (k : ℕ) → k < n → (p : ℕ) → Exports (x k) m i p → ψ e ≡ Some p
    unfolding ImportsFrom link_to
    found (named i) l e s k g p h =
        not-run i l e s ∙ c.changed e (i, l, s) (named i) l s ∙ ap (link_to None) (looked_found i k p g h)
    found (indexed i) l e s k g p h = let o = exports_offers (x k) m (indexed i) p h in by_entry (indexed i) l e s k g p o.0 o.1
    found (anonymous i) l e s k g p h = let o = exports_offers (x k) m (anonymous i) p h in by_entry (anonymous i) l e s k g p o.0 o.1

    -- nobody exports to import i
    module _ (i : Import) (l : IsImport F i) (e : ℕ) (s : Begins F i e) (o : (k : ℕ) → k < n → (p : ℕ) → Exports (x k) m i p → ⊥) where
      none_named : φ e ≡ None
      unfolding link_to
      none_named =
          either (NamedBegins m laid low view a b ms e) (φ e) None
          (λ t.
          let z : i ≡ named t.0 = laid.alone.own-batch i (named t.0) l t.1 (s ∙ sym t.2) in
          c.changed e t (named t.0) t.1 t.2 ∙ ap (link_to None) (looked_none t.0 (rw z at o)))
          (λ t. c.same e t)

      no_offer : (j : ℕ) → j < count F module_entries → InRun F j i
          → export_from F (module_by_name ms (name_of F (word F (entry F module_entries j)))) i ≡ None
      unfolding export_from
      no_offer j g r = go (source x ms (name_of F (word F (entry F module_entries j))) records)
        where
          hides : (k : ℕ) → k < n → ImportsFrom (x k) m i → (y : Option ℕ) → export_for (x k) m i ≡ y → y ≡ None
          hides k t q (Some p) z = absurd (o k t p (offers_exports (x k) m i p q z))
          hides k t q None z = refl

          go : FirstNamed x ms (name_of F (word F (entry F module_entries j))) (module_by_name ms (name_of F (word F (entry F module_entries j))))
              → export_from F (module_by_name ms (name_of F (word F (entry F module_entries j)))) i ≡ None
          go (inl (k, y, t, z, h, q)) =
              ap (λ u. export_from F u i) q
              ∙ offers j g (x k) y h i r
              ∙ hides k (rw (← few) t) (asks_entry m laid low view a b (x k) j i g (sym z) r) (export_for (x k) m i) refl
          go (inr q) = ap (λ u. export_from F u i) q

      missing : ψ e ≡ None
      unfolding link_to
      missing =
          either (Run m laid low view a b ms e) (ψ e) None
          (λ t.
          let r : InRun F t.0 i = rw (laid.alone.own-batch t.2.0 i t.2.1 l (t.2.3 ∙ sym s)) at t.2.2 in
          d.changed e t i l s t.0 t.1 r
          ∙ ap (λ y. link_to y (export_from F (module_by_name ms (name_of F (word F (entry F module_entries t.0)))) i)) none_named
          ∙ ap (link_to None) (no_offer t.0 t.1 r))
          (λ t. d.same e t ∙ none_named)

    -- the new module's links are at rest
    pub own_resolved : LinksResolved n x m ψ
    unfolding Exporter
    own_resolved =
        record {
          found = λ i l e s k g p h. found i l e s k g p h.0;
          missing = λ i l e s o. missing i l e s (λ k g p h. o k g p (h, (λ t u. true_false (sym t ∙ no-crs))));
          others = λ e o. d.same e (λ t. o t.2.0 t.2.1 t.2.3) ∙ c.same e (λ t. o (named t.0) t.1 t.2);
        }
