-- The imports of one module entry: two runs of the header's tables, each import linked or unlinked in turn.
use Rattle.std.specs.Prelude.{if◌then◌else◌, ℕ, ◌+◌, ◌*◌, ◌≤◌, ◌<◌, ◌≡◌, ◌≢◌, ◌⊎◌, true, length, Option, None}
use Rattle.std.proofs.Math.Path.{refl, sym, ap}
use Rattle.std.proofs.Common.{◌∙◌, inl, inr, arith}
use Rattle.std.proofs.Math.Bool.{false}
use Rattle.std.proofs.Math.Dec.{lit<}
use Rattle.window.specs.Memory.{◌⊕◌}
use Rattle.window.specs.Access.{get32}
use Rattle.window.specs.Loop.{loop}
use Rattle.window.specs.Within.{Low}
use Rattle.window.specs.Mirror.{word}
use Rattle.layout.specs.Segments.{entry_at}
use Rattle.linker_spec.specs.Imports.{is_unresolved, import_from}
use Rattle.linker_spec.specs.Resets.{reset_at}
use Rattle.history.specs.Image.{tables, module_entries, indexed_imports, anonymous_imports, externals, start, count, entry}
use Rattle.history.specs.LoadedModule.{Image, base_of, moved_offset, handler, Area}
use Rattle.history.specs.Imports.{Import, indexed, anonymous, import_table, import_number, import_entry, IsImport, wanted, batch, run_start, run_count, InRun, BatchOf}
use Rattle.history.specs.WellLaid.{Asked, table_number, WellLaid}
use Rattle.history.specs.Steps.Wp.{Memory, Does, does_mono, does_read, reads_get32}
use Rattle.history.specs.Steps.View.{View, import_index, import_tag}
use Rattle.history.specs.Steps.ModuleBytes.{shows_view}
use Rattle.history.specs.Steps.Reading.{plain-sum, four_at, moved_sum}
use Rattle.history.specs.Steps.Links.{Links, relink, relink-same, relink-other, is_some, Stands}
use Rattle.history.specs.Steps.Changes.{Change, change_iff, Changed, changes_loop}
use Rattle.history.specs.Steps.OneImport.{link_to, import_inside, reads_batch, reads_unresolved, resolves, resets_at}

-- entry e begins the batch of import i
abbrev pub Begins : (ℕ → ℕ) → Import → ℕ → Type 0
Begins F i e = batch F i ≡ entry F externals e

-- the entries that begin batches of the run of module entry j, of one kind or of both
abbrev pub RunBegins : (ℕ → ℕ) → (ℕ → Import) → ℕ → ℕ → Type 0
RunBegins F make j e = (i : ℕ) × IsImport F (make i) × InRun F j (make i) × Begins F (make i) e

abbrev pub EntryBegins : (ℕ → ℕ) → ℕ → ℕ → Type 0
EntryBegins F j e = (i : Import) × IsImport F i × InRun F j i × Begins F i e

-- each import whose batch begins at e gets what is offered to it
abbrev pub Linking : (ℕ → ℕ) → (Import → Option ℕ) → ℕ → Option ℕ → Option ℕ → Type 0
Linking F offered e x y = (i : Import) → IsImport F i → Begins F i e → y ≡ link_to x (offered i)

module _ (m : Image) (laid : WellLaid m) (low : Low (Area m)) {T : Memory} (view : View m T) (n v : ℕ) where
  abbrev F : ℕ → ℕ
  F = m.file

  abbrev base : ℕ
  base = base_of m.load_call

  abbrev S : ℕ → Type 0
  S = Area m

  -- entries that begin one batch are one
  pub one-first : (i : Import) (e f d : ℕ) → BatchOf F i e f → Begins F i d → d ≡ e
  unfolding entry
  one-first i e f d b h = let x : entry F externals d ≡ entry F externals e = sym h ∙ b.first in omega (arith, x)

  -- changing the link of one import is a change at its batch's first entry
  pub relinked
      : {φ : Links} (offered : Import → Option ℕ) (i : Import) → IsImport F i → (e f : ℕ) → BatchOf F i e f
      → Change (Begins F i) (Linking F offered) φ (relink φ e (link_to (φ e) (offered i)))
  relinked {φ} offered i l e f b =
      record {
        changed =
            λ d h k j g.
            let z : k ≡ i = laid.alone.own-batch k i j l (g ∙ sym h) in
            rw (z, one-first i e f d b h) (relink-same φ e (link_to (φ e) (offered i)));
        same = λ d o. relink-other φ e (link_to (φ e) (offered i)) d (λ z. o (rw z b.first));
      }

  pub unlinked
      : {φ : Links} (i : Import) (e f : ℕ) → BatchOf F i e f → Change (Begins F i) (λ d x y. y ≡ None) φ (relink φ e None)
  unlinked {φ} i e f b =
      record {
        changed = λ d h. rw (one-first i e f d b h) (relink-same φ e None);
        same = λ d o. relink-other φ e None d (λ z. o (rw z b.first));
      }

  -- one import by index or tag
  links_one
      : {φ : Links} {M : Memory} (offered : Import → Option ℕ) (symbol : ℕ → Option ℕ) (i : Import) → IsImport F i
      → ((N : Memory) → View m N → word N (base + import_entry F i) ≡ wanted F i) → symbol (wanted F i) ≡ offered i → Stands m T φ n v M
      → Does S (import_from symbol base (base + import_entry F i)) (λ _ N. Changed m T n v S (Linking F offered) (Begins F i) φ N) M
  unfolding import_from
  links_one {φ} {M} offered symbol i l asks same s =
      let w = shows_view m laid view s.shows in
      let b = laid.alone.batches i l in
      does_read S (get32 (base + import_entry F i)) _ (wanted F i)
      (reads_get32 S _ (four_at m laid low (import_entry F i) (omega (arith, import_inside m laid low i l))) (asks M w))
      (does_read S (get32 (base + import_entry F i ⊕ 4)) _ (base + entry F externals b.0)
      (reads_batch m laid low view n v w i l b.0 b.1 b.2)
      (does_read S (is_unresolved (base + entry F externals b.0)) _ (if is_some (φ b.0) then false else true)
      (reads_unresolved m laid low view n v i b.0 b.1 b.2 s)
      (does_mono S (resolves m laid low view n v i b.0 b.1 (symbol (wanted F i)) b.2 s)
      (λ _ N t. (relink φ b.0 (link_to (φ b.0) (offered i)), rw same at t, relinked offered i l b.0 b.1 b.2)))))

  -- one of the two kinds of imports that come in runs
  pub record Kind (make : ℕ → Import) (t : ℕ) : Type 0 where
    pub tabled : t < length tables
    pub number : (i : ℕ) → import_entry F (make i) ≡ entry F (table_number t) i
    pub counted : (i : ℕ) → i < count F (table_number t) → IsImport F (make i)
    pub below : (i : ℕ) → IsImport F (make i) → i < count F (table_number t)
    pub wide : (table_number t).width ≡ 8
    pub table_is : (i : ℕ) → import_table (make i) ≡ table_number t
    pub one : (i j : ℕ) → make i ≡ make j → i ≡ j
    pub start-same : (j i k : ℕ) → run_start F j (make i) ≡ run_start F j (make k)
    pub count_same : (j i k : ℕ) → run_count F j (make i) ≡ run_count F j (make k)
    pub asked : (j i : ℕ) → j < count F module_entries → InRun F j (make i) → Asked F (make i)
    pub asks : (i : ℕ) → IsImport F (make i) → Asked F (make i) → (N : Memory) → View m N → word N (base + import_entry F (make i)) ≡ wanted F (make i)

  pub by_index : Kind indexed 7
  unfolding tables import_entry run_start run_count wanted Asked
  by_index =
      record {
        tabled = lit< tt;
        number = λ i. refl;
        counted = λ i l. l;
        below = λ i l. l;
        wide = refl;
        table_is = λ i. refl;
        one = λ i j e. ap import_number e;
        start-same = λ j i k. refl;
        count_same = λ j i k. refl;
        asked = λ j i l r. (j, l, r);
        asks = λ i l a N w. w.kept (entry F indexed_imports i) (import_index i l a);
      }

  pub by_tag : Kind anonymous 8
  unfolding tables import_entry run_start run_count wanted Asked
  by_tag =
      record {
        tabled = lit< tt;
        number = λ i. refl;
        counted = λ i l. l;
        below = λ i l. l;
        wide = refl;
        table_is = λ i. refl;
        one = λ i j e. ap import_number e;
        start-same = λ j i k. refl;
        count_same = λ j i k. refl;
        asked = λ j i l r. (j, l, r);
        asks = λ i l a N w. w.kept (entry F anonymous_imports i) (import_tag i l a);
      }

  module _ (make : ℕ → Import) (t : ℕ) (q : Kind make t) (j : ℕ) (l : j < count F module_entries) where
    -- import i is the run's k-th
    record At-run (k i : ℕ) : Type 0 where
      is : IsImport F (make i)
      at : import_entry F (make i) ≡ run_start F j (make 0) + k * 8

    -- the run begins at some entry of its table
    run_at : 0 < run_count F j (make 0) → (d : ℕ) × (run_start F j (make 0) ≡ start F (table_number t) + d * 8)
        × (d + run_count F j (make 0) ≤ count F (table_number t))
    unfolding entry
    run_at h = go (laid.alone.runs j l (make 0))
      where
        go
            : (run_count F j (make 0) ≡ 0)
            ⊎ ((d : ℕ) × (run_start F j (make 0) ≡ entry F (import_table (make 0)) d) × (d + run_count F j (make 0) ≤ count F (import_table (make 0))))
            → (d : ℕ) × (run_start F j (make 0) ≡ start F (table_number t) + d * 8) × (d + run_count F j (make 0) ≤ count F (table_number t))
        go (inl z) = absurd (omega (arith, z))
        go (inr (d, e, c)) = (d, e ∙ rw (q.table_is 0, q.wide) refl, rw (q.table_is 0) at c)

    run_import : (k : ℕ) → k < run_count F j (make 0) → (i : ℕ) × At-run k i
    unfolding entry
    run_import k h =
        let r = run_at (omega arith) in (
          r.0 + k,
          record {
            is = q.counted (r.0 + k) (omega (arith, r.2));
            at = q.number (r.0 + k) ∙ rw (q.wide, r.1) (omega arith);
          },
        )

    run_nonzero : 0 < run_count F j (make 0) → run_start F j (make 0) ≢ 0
    run_nonzero h z =
        let r = run_at h in
        elim (laid.alone.tables-inside t q.tabled) [ inl e ↦ absurd (omega (arith, e, r.2)) | inr e ↦ e.0 (omega (arith, z, r.1)) ]

    one_import : (k i d : ℕ) → At-run k i → At-run k d → i ≡ d
    unfolding entry
    one_import k i d g h =
        let e : start F (table_number t) + i * 8 ≡ start F (table_number t) + d * 8 =
        rw q.wide at (sym (q.number i) ∙ g.at ∙ sym h.at ∙ q.number d) in omega (arith, e)

    other_import : (k d i : ℕ) → At-run k i → At-run d i → k ≡ d
    other_import k d i g h = let e : run_start F j (make 0) + k * 8 ≡ run_start F j (make 0) + d * 8 = sym g.at ∙ h.at in omega (arith, e)

    in_run_lem : (k i : ℕ) → k < run_count F j (make 0) → At-run k i → InRun F j (make i)
    unfolding InRun
    in_run_lem k i h g = (k, rw (q.count_same j i 0) h, rw (q.table_is i, q.wide, q.start-same j i 0) g.at)

    of_run : (i : ℕ) → IsImport F (make i) → InRun F j (make i) → (k : ℕ) × (k < run_count F j (make 0)) × At-run k i
    unfolding InRun
    of_run i g (k, h, e) =
        (k, rw (q.count_same j i 0) at h, record { is = g; at = rw (q.table_is i, q.wide, q.start-same j i 0) at e })

    -- its address
    run-address
        : (k i : ℕ) → k < run_count F j (make 0) → At-run k i
        → entry_at (moved_offset base (run_start F j (make 0))) k 8 ≡ base + import_entry F (make i)
    run-address k i h g =
        let b = import_inside m laid low (make i) g.is in
        let p = plain-sum m laid low (import_entry F (make i)) (omega (arith, b)) in
        rw (moved_sum m laid low (run_start F j (make 0)) (run_nonzero (omega arith)) (omega (arith, b, g.at)), g.at) (omega (arith, p, g.at))

    abbrev AtBegins : ℕ → ℕ → Type 0
    AtBegins k e = (i : ℕ) × At-run k i × Begins F (make i) e

    -- different imports of the run begin different batches
    run-apart : (k d e : ℕ) → k ≢ d → AtBegins k e → AtBegins d e → ⊥
    run-apart k d e o (i, g, b) (p, h, c) =
        let z : i ≡ p = q.one i p (laid.alone.own-batch (make i) (make p) g.is h.is (b ∙ sym c)) in
        o (other_import k d i g (rw (← z) at h))

    run-begins : {φ ψ : Links} {R : ℕ → Option ℕ → Option ℕ → Type 0}
        → Change (λ e. (k : ℕ) × (k < run_count F j (make 0)) × AtBegins k e) R φ ψ → Change (RunBegins F make j) R φ ψ
    run-begins c =
        change_iff (λ e h. (h.2.0, h.2.1.is, in_run_lem h.0 h.2.0 h.1 h.2.1, h.2.2))
        (λ e h. let r = of_run h.0 h.1 h.2 in (r.0, r.1, (h.0, r.2, h.3))) c

    -- at one import of the run
    at_one : {φ ψ : Links} {R : ℕ → Option ℕ → Option ℕ → Type 0} (k i : ℕ) → At-run k i → Change (Begins F (make i)) R φ ψ
        → Change (AtBegins k) R φ ψ
    at_one k i g c =
        change_iff (λ e h. (i, g, h)) (λ e h. rw (one_import k h.0 i h.1 g) at h.2) c

    -- the run, import by import, each linked to what is offered
    pub links_run
        : {φ : Links} {M : Memory} (offered : Import → Option ℕ) (symbol : ℕ → Option ℕ)
        → ((i : ℕ) → IsImport F (make i) → InRun F j (make i) → symbol (wanted F (make i)) ≡ offered (make i)) → Stands m T φ n v M
        → Does S
        (loop (λ k _. import_from symbol base (entry_at (moved_offset base (run_start F j (make 0))) k 8)) 0 (run_count F j (make 0)) (tt {0}))
        (λ _ N. Changed m T n v S (Linking F offered) (RunBegins F make j) φ N) M
    links_run {φ} {M} offered symbol same s =
        does_mono S
        (changes_loop m T n v S (Linking F offered)
        (λ k _. import_from symbol base (entry_at (moved_offset base (run_start F j (make 0))) k 8)) AtBegins (run_count F j (make 0)) (tt {0})
        (λ k d e h g o a b. run-apart k d e o a b)
        (λ k b ψ N h t.
        let r = run_import k h in
        rw (run-address k r.0 h r.1)
        (does_mono S
        (links_one offered symbol (make r.0) r.1.is (q.asks r.0 r.1.is (q.asked j r.0 l (in_run_lem k r.0 h r.1)))
        (same r.0 r.1.is (in_run_lem k r.0 h r.1)) t)
        (λ _ L c. (c.0, c.1, at_one k r.0 r.1 c.2)))) s)
        (λ _ N c. (c.0, c.1, run-begins c.2))

    -- and each unlinked
    pub unlinks_run
        : {φ : Links} {M : Memory} → Stands m T φ n v M
        → Does S
        (loop (λ k _. reset_at base (handler m) (entry_at (moved_offset base (run_start F j (make 0))) k 8)) 0 (run_count F j (make 0)) (tt {0}))
        (λ _ N. Changed m T n v S (λ e x y. y ≡ None) (RunBegins F make j) φ N) M
    unlinks_run {φ} {M} s =
        does_mono S
        (changes_loop m T n v S (λ e x y. y ≡ None)
        (λ k _. reset_at base (handler m) (entry_at (moved_offset base (run_start F j (make 0))) k 8)) AtBegins (run_count F j (make 0)) (tt {0})
        (λ k d e h g o a b. run-apart k d e o a b)
        (λ k b ψ N h t.
        let r = run_import k h in
        let f = laid.alone.batches (make r.0) r.1.is in
        rw (run-address k r.0 h r.1)
        (does_mono S (resets_at m laid low view n v (make r.0) r.1.is f.0 f.1 f.2 t)
        (λ _ L c. (relink ψ f.0 None, c, at_one k r.0 r.1 (unlinked (make r.0) f.0 f.1 f.2))))) s)
        (λ _ N c. (c.0, c.1, run-begins c.2))
