-- A module entry: its name, and both its runs linked or unlinked.
use Rattle.std.specs.Prelude.{ℕ, ◌+◌, ◌≤◌, ◌<◌, ◌≡◌, ◌⊎◌, Option, Some, None}
use Rattle.std.proofs.Common.{sym, ap, ◌∙◌, inl, inr, arith, lit<, lit≤}
use Rattle.window.specs.Memory.{◌⊕◌}
use Rattle.window.specs.Access.{◌>>=◌, ◌>>◌, get32}
use Rattle.window.specs.Loop.{loop}
use Rattle.window.specs.Within.{Low}
use Rattle.window.specs.Mirror.{word}
use Rattle.layout.specs.Segments.{entry_at}
use Rattle.register.specs.Module.{Module}
use Rattle.register.specs.Read.Read as read
use Rattle.linker_spec.specs.Imports as imports
use Rattle.linker_spec.specs.Imports.{import_from, link_from, imports_of}
use Rattle.linker_spec.specs.Resets.{reset_at}
use Rattle.history.specs.Image.{tables, module_entries, count, entry}
use Rattle.history.specs.LoadedModule.{Image, base_of, size_of, moved_offset, handler, Area}
use Rattle.history.specs.Imports.{Import, named, indexed, anonymous, IsImport, wanted, run_start, run_count, InRun}
use Rattle.history.specs.WellLaid.{table, WellLaid}
use Rattle.history.specs.Steps.Wp.{Memory, Does, ReadsValue, does_mono, does_then, does_read, reads_then, reads_ret, reads_get32}
use Rattle.history.specs.Steps.View.{View, entry-name, entry_indexed, entry_anonymous, indexed_count, anonymous_count}
use Rattle.history.specs.Steps.Parts.{part-inside, entry-in_table}
use Rattle.history.specs.Steps.ModuleBytes.{shows_view}
use Rattle.history.specs.Steps.Reading.{plain-sum, four_at}
use Rattle.history.specs.Steps.Links.{Links, Stands}
use Rattle.history.specs.Steps.Changes.{Change, change-then, change_iff, Changed}
use Rattle.history.specs.Steps.Runs.{Linking, RunBegins, EntryBegins, by_index, by_tag, links_run, unlinks_run}

module _ (m : Image) (laid : WellLaid m) (low : Low (Area m)) {T : Memory} (view : View m T) (n v : ℕ) where
  abbrev F : ℕ → ℕ
  F = m.file

  abbrev base : ℕ
  base = base_of m.load_call

  abbrev S : ℕ → Type 0
  S = Area m

  module _ (j : ℕ) (l : j < count F module_entries) where
    inside : entry F module_entries j + 20 ≤ size_of m.load_call
    unfolding tables
    inside = let e = part-inside m laid (table 4) _ (entry-in_table F 4 j 19 (lit< tt) l (lit< tt)) in omega (arith, e)

    -- the word at k of the entry
    reads_at : {M : Memory} (k : ℕ) {u : ℕ} → k + 4 ≤ 20 → word M (base + (entry F module_entries j + k)) ≡ u
        → ReadsValue S (get32 (base + entry F module_entries j ⊕ k)) u M
    reads_at k h e =
        let b = plain-sum m laid low (entry F module_entries j + k) (omega (arith, inside)) in
        let z : base + entry F module_entries j ⊕ k ≡ base + (entry F module_entries j + k) = omega (arith, b) in
        rw z (reads_get32 S _ (four_at m laid low (entry F module_entries j + k) (omega (arith, inside))) e)

    -- the pointer of its name
    pub reads_entry_pointer
        : {M : Memory} → View m M → ReadsValue S (get32 (base + entry F module_entries j)) (moved_offset base (word F (entry F module_entries j))) M
    reads_entry_pointer w =
        reads_get32 S _ (four_at m laid low (entry F module_entries j) (omega (arith, inside))) (w.moved (entry F module_entries j) (entry-name j l))

    -- the two runs have no import in common
    runs_apart_lem : (e : ℕ) → RunBegins F indexed j e → RunBegins F anonymous j e → ⊥
    runs_apart_lem e (i, a, r, b) (k, c, s, d) =
        let z : indexed i ≡ anonymous k = laid.alone.own-batch (indexed i) (anonymous k) a c (b ∙ sym d) in absurd (omega (arith, ap sort_of z))
      where
        sort_of : Import → ℕ
        sort_of (named x) = 0
        sort_of (indexed x) = 1
        sort_of (anonymous x) = 2

    pub no_run : (i : ℕ) → InRun F j (named i) → ⊥
    unfolding InRun run_count
    no_run i (k, h, e) = omega (arith, h)

    both_runs : {φ ψ χ : Links} {R : ℕ → Option ℕ → Option ℕ → Type 0} → Change (RunBegins F indexed j) R φ ψ
        → Change (RunBegins F anonymous j) R ψ χ → Change (EntryBegins F j) R φ χ
    both_runs c d = change_iff into out (change-then runs_apart_lem c d)
      where
        into : (e : ℕ) → RunBegins F indexed j e ⊎ RunBegins F anonymous j e → EntryBegins F j e
        into e (inl (i, a, r, b)) = (indexed i, a, r, b)
        into e (inr (i, a, r, b)) = (anonymous i, a, r, b)

        out : (e : ℕ) → EntryBegins F j e → RunBegins F indexed j e ⊎ RunBegins F anonymous j e
        out e (named i, a, r, b) = absurd (no_run i r)
        out e (indexed i, a, r, b) = inl (i, a, r, b)
        out e (anonymous i, a, r, b) = inr (i, a, r, b)

    -- what the entry's words say
    starts_indexed : {M : Memory} → View m M → ReadsValue S (get32 (base + entry F module_entries j ⊕ 4)) (moved_offset base (run_start F j (indexed 0))) M
    unfolding run_start
    starts_indexed w = reads_at 4 (lit≤ tt) (w.moved (entry F module_entries j + 4) (entry_indexed j l))

    counts_indexed : {M : Memory} → View m M → ReadsValue S (get32 (base + entry F module_entries j ⊕ 8)) (run_count F j (indexed 0)) M
    unfolding run_count
    counts_indexed w = reads_at 8 (lit≤ tt) (w.kept (entry F module_entries j + 8) (indexed_count j l))

    starts_anonymous : {M : Memory} → View m M
        → ReadsValue S (get32 (base + entry F module_entries j ⊕ 12)) (moved_offset base (run_start F j (anonymous 0))) M
    unfolding run_start
    starts_anonymous w = reads_at 12 (lit≤ tt) (w.moved (entry F module_entries j + 12) (entry_anonymous j l))

    counts_anonymous : {M : Memory} → View m M → ReadsValue S (get32 (base + entry F module_entries j ⊕ 16)) (run_count F j (anonymous 0)) M
    unfolding run_count
    counts_anonymous w = reads_at 16 (lit≤ tt) (w.kept (entry F module_entries j + 16) (anonymous_count j l))

    -- with no module to link to, its words are only read
    pub reads_runs
        : {φ : Links} {M : Memory} → Stands m T φ n v M → ReadsValue S (imports_of None base (base + entry F module_entries j)) tt M
    unfolding imports_of link_from
    reads_runs s =
        let w = shows_view m laid view s.shows in
        reads_then S (get32 (base + entry F module_entries j ⊕ 4)) _ _ (starts_indexed w)
        (reads_then S (get32 (base + entry F module_entries j ⊕ 8)) _ _ (counts_indexed w)
        (reads_then S (get32 (base + entry F module_entries j ⊕ 12)) _ _ (starts_anonymous w)
        (reads_then S (get32 (base + entry F module_entries j ⊕ 16)) _ _ (counts_anonymous w) (reads_ret S tt))))

    -- both runs linked to the exports of a record
    pub links_entry
        : {φ : Links} {M : Memory} (offered : Import → Option ℕ) (r : Module)
        → ((i : ℕ) → IsImport F (indexed i) → InRun F j (indexed i) → read.entry_of r.indexed (wanted F (indexed i)) ≡ offered (indexed i))
        → ((i : ℕ) → IsImport F (anonymous i) → InRun F j (anonymous i) → imports.anonymous_of r (wanted F (anonymous i)) ≡ offered (anonymous i))
        → Stands m T φ n v M
        → Does S (imports_of (Some r) base (base + entry F module_entries j)) (λ _ N. Changed m T n v S (Linking F offered) (EntryBegins F j) φ N) M
    unfolding imports_of link_from
    links_entry {φ} {M} offered r f g s =
        let w = shows_view m laid view s.shows in
        does_read S (get32 (base + entry F module_entries j ⊕ 4)) _ _ (starts_indexed w)
        (does_read S (get32 (base + entry F module_entries j ⊕ 8)) _ _ (counts_indexed w)
        (does_read S (get32 (base + entry F module_entries j ⊕ 12)) _ _ (starts_anonymous w)
        (does_read S (get32 (base + entry F module_entries j ⊕ 16)) _ _ (counts_anonymous w)
        (does_then S
        (loop (λ k _. import_from (read.entry_of r.indexed) base (entry_at (moved_offset base (run_start F j (indexed 0))) k 8)) 0
        (run_count F j (indexed 0)) (tt {0}))
        _ (links_run m laid low view n v indexed 7 (by_index m laid low view n v) j l offered (read.entry_of r.indexed) f s)
        (λ _ N c.
        does_mono S (links_run m laid low view n v anonymous 8 (by_tag m laid low view n v) j l offered (imports.anonymous_of r) g c.1)
        (λ _ L d. (d.0, d.1, both_runs c.2 d.2)))))))

    -- both runs unlinked
    pub unlinks_entry
        : {φ : Links} {M : Memory} → Stands m T φ n v M
        → Does S
        (do
          a ← get32 (base + entry F module_entries j ⊕ 4)
          b ← get32 (base + entry F module_entries j ⊕ 8)
          c ← get32 (base + entry F module_entries j ⊕ 12)
          d ← get32 (base + entry F module_entries j ⊕ 16)
          loop (λ k _. reset_at base (handler m) (entry_at a k 8)) 0 b (tt {0})
          loop (λ k _. reset_at base (handler m) (entry_at c k 8)) 0 d (tt {0}))
        (λ _ N. Changed m T n v S (λ e x y. y ≡ None) (EntryBegins F j) φ N) M
    unlinks_entry {φ} {M} s =
        let w = shows_view m laid view s.shows in
        does_read S (get32 (base + entry F module_entries j ⊕ 4)) _ _ (starts_indexed w)
        (does_read S (get32 (base + entry F module_entries j ⊕ 8)) _ _ (counts_indexed w)
        (does_read S (get32 (base + entry F module_entries j ⊕ 12)) _ _ (starts_anonymous w)
        (does_read S (get32 (base + entry F module_entries j ⊕ 16)) _ _ (counts_anonymous w)
        (does_then S
        (loop (λ k _. reset_at base (handler m) (entry_at (moved_offset base (run_start F j (indexed 0))) k 8)) 0 (run_count F j (indexed 0)) (tt {0})) _
        (unlinks_run m laid low view n v indexed 7 (by_index m laid low view n v) j l s)
        (λ _ N c.
        does_mono S (unlinks_run m laid low view n v anonymous 8 (by_tag m laid low view n v) j l c.1)
        (λ _ L d. (d.0, d.1, both_runs c.2 d.2)))))))
