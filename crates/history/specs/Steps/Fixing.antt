-- Fixing at a level other than 2 and 3 changes only bytes at rest, none of them seen by a step that reads the module.
use Prim.Native.Nat.{ℕ, ◌+◌, ◌-◌, ◌*◌, ◌≤◌, ◌<◌, max}
use Rattle.std.specs.Prelude.{if◌then◌else◌, ◌≡◌, ◌≢◌, ◌⊎◌, get_or}
use Rattle.std.proofs.Math.Path.{refl, sym, ap}
use Rattle.std.proofs.Common.{◌∙◌, lit<, lit≤}
use Rattle.std.proofs.Math.Logic.{inl, inr}
use native.Mathlib.Omega.{arith}
use Rattle.std.proofs.Math.Decide.{dec_lt, ℕ_discrete}
use Rattle.std.proofs.Math.Dec.{eqb, ltb}
use borrow.Author.Tests.{ne_eqb, lt-ltb, le-ltb}
use Rattle.window.specs.Memory.{◌⊕◌}
use Rattle.window.specs.Access.{Prog, ret, ◌>>=◌}
use Rattle.window.specs.Loop.{loop}
use Rattle.window.specs.Within.{In, dec_in, Low, Agree}
use Rattle.window.specs.Mirror.{word, run_m, put4-off}
use Rattle.layout.specs.Tables.{table_entry_sizes}
use Rattle.layout.specs.Segments.{field, set_field, entry_at}
use Rattle.linker_spec.specs.Fix.{fixed_to, fix_pair, end_tables, fix_from, fix}
use Rattle.linker_spec.proofs.Cases.{level_1}
use Rattle.history.specs.Image.{externals, entry}
use Rattle.history.specs.LoadedModule.{Image, base_of, size_of, Area}
use Rattle.history.specs.WellLaid.{Part, header, table, string, InPart, Touched, external, WellLaid}
use Rattle.history.specs.Steps.Wp.{Memory, WithinM, Does, SameOutside, does_ret, does_get32, ends_put32, does_then, does_loop, does_wider}
use Rattle.history.specs.Steps.Windowed.{same_on}
use Rattle.history.specs.Steps.View.{View, view_agree}
use Rattle.history.specs.Steps.Parts.{sort, ReadOffset, in_header, in_table, in_external, in_string, read_offset, entry-in_table, image_area, apart, external_part}
use Rattle.history.specs.Steps.ModuleBytes.{mark_at, VolatileByte, in_word, is_mark, in_next, in_previous}
use Rattle.history.specs.Steps.Reading.{plain-sum}
use Rattle.history.specs.Steps.Links.{Links, Stands}

-- the bytes at rest after fixing at that level
unfoldable pub fixed_at : Image → ℕ → Memory → Memory
fixed_at m level T = (run_m (fix (base_of m.load_call) (size_of m.load_call) level) T).1

module _ (m : Image) (laid : WellLaid m) (low : Low (Area m)) where
  abbrev F : ℕ → ℕ
  F = m.file

  abbrev base : ℕ
  base = base_of m.load_call

  abbrev whole : ℕ
  whole = size_of m.load_call

  -- the header past the list words: all that is read or written
  abbrev X : ℕ → Type 0
  X q = In (base + 0x98) 0xa0 q

  -- all that is written: the fixed size, and the last three tables' fields
  abbrev W : ℕ → Type 0
  W q = In (base + 0x98) 4 q ⊎ In (base + 0x120) 0x18 q

  no_wrap : (x : ℕ) → x + 4 ≤ 0x138 → base ⊕ x ≡ base + x
  no_wrap x h = let b = plain-sum m laid low x (omega (arith, laid.alone.header-inside)) in omega (arith, b)

  -- a word of the header, whatever it holds
  does_field
      : {A : Type 0} (x : ℕ) (f : ℕ → Prog A) {Q : A → Memory → Type 0} {M : Memory} → 0x98 ≤ x → x + 4 ≤ 0x138 → ((u : ℕ) → Does X (f u) Q M)
      → Does X (field base x >>= f) Q M
  unfolding field
  does_field x f {Q} {M} l h g = rw (no_wrap x h) (does_get32 X (base + x) f (λ k i. (omega arith, omega arith)) (g (word M (base + x))))

  sets_field
      : (x v : ℕ) {M N : Memory} → 0x98 ≤ x → x + 4 ≤ 0x138 → ((q : ℕ) → In (base + x) 4 q → W q) → SameOutside W M N
      → Does X (set_field base x v) (λ _ L. SameOutside W M L) N
  unfolding set_field
  sets_field x v {M} {N} l h i k =
      rw (no_wrap x h)
      (ends_put32 X (base + x) v (λ j g. (omega arith, omega arith)) (λ q o. put4-off N (base + x) v q (λ g. o (i q g)) ∙ k q o))

  does_pair
      : (i end : ℕ) {M N : Memory} → i < 15 → SameOutside W M N → Does X (fix_pair base 0x120 i end) (λ _ L. SameOutside W M L) N
  unfolding fix_pair
  does_pair i end {M} {N} l k =
      does_field (0xc0 + 8 * i) _ (omega arith) (omega arith)
      (λ t. does_field (0xc0 + 8 * i + 4) _ (omega arith) (omega arith) (λ c. go t c (dec_lt (0xc0 + 8 * i) 0x120)))
    where
      go
          : (t c : ℕ) → Dec (0xc0 + 8 * i < 0x120)
          → Does X
          (if ltb (0xc0 + 8 * i) 0x120 then ret (if eqb c 0 then end else max end (entry_at t c (get_or table_entry_sizes i 0)))
          else (set_field base (0xc0 + 8 * i + 4) 0 >>= λ _. ret end)) (λ _ L. SameOutside W M L) N
      go t c (yes h) = rw (lt-ltb (0xc0 + 8 * i) 0x120 h) (does_ret X k)
      go t c (no h) =
          rw (le-ltb (0xc0 + 8 * i) 0x120 (omega arith))
          (does_then X (set_field base (0xc0 + 8 * i + 4) 0) (λ _. ret end)
          (sets_field (0xc0 + 8 * i + 4) 0 (omega arith) (omega arith) (λ q g. inr (omega arith, omega arith)) k) (λ _ L e. does_ret X e))

  does_ends : (v : ℕ) {M N : Memory} → SameOutside W M N → Does X (end_tables base 0x120 v) (λ _ L. SameOutside W M L) N
  unfolding end_tables
  does_ends v {M} {N} k =
      does_loop X (λ i _. set_field base (0x120 + 8 * i) v) (λ _ _ L. SameOutside W M L) 0 3 (tt {0}) N
      (λ j b L l g h. sets_field (0x120 + 8 * j) v (omega arith) (omega arith) (λ q i. inr (omega arith, omega arith)) h) k

  does_from : (M : Memory) → Does X (fix_from base whole 0x120) (λ _ N. SameOutside W M N) M
  unfolding fix_from
  does_from M =
      does_field 0xb0 _ (lit≤ tt) (lit≤ tt)
      (λ code. does_field 0xb4 _ (lit≤ tt) (lit≤ tt)
      (λ bytes. does_then X (loop (fix_pair base 0x120) 0 15 (code ⊕ bytes)) _
      (does_loop X (fix_pair base 0x120) (λ _ _ N. SameOutside W M N) 0 15 (code ⊕ bytes) M (λ j b N l g h. does_pair j b (omega arith) h) (λ q o. refl))
      (λ end N k. does_then X (end_tables base 0x120 (base ⊕ fixed_to end base whole)) _ (does_ends (base ⊕ fixed_to end base whole) k)
      (λ _ L h. does_then X (set_field base 0x98 (fixed_to end base whole)) _
      (sets_field 0x98 (fixed_to end base whole) (lit≤ tt) (lit≤ tt) (λ q i. inl i) h) (λ _ K e. does_ret X e)))))

  module _ (level : ℕ) (a : level ≢ 2) (b : level ≢ 3) where
    -- at level 0 and above 3 nothing is done, and nothing changes
    fix_none : level ≢ 1 → fix base whole level ≡ ret 0
    unfolding fix
    fix_none c = rw (ne_eqb level 1 c, ne_eqb level 2 a, ne_eqb level 3 b) refl

    does_fix : (M : Memory) → Does X (fix base whole level) (λ _ N. SameOutside W M N) M
    does_fix M = go (ℕ_discrete level 1)
      where
        go : Dec (level ≡ 1) → Does X (fix base whole level) (λ _ N. SameOutside W M N) M
        go (yes e) = rw (e, level_1 base whole) (does_from M)
        go (no e) = rw (fix_none e) (does_ret X (λ q o. refl))

    kept_fixed : (T : Memory) → SameOutside W T (fixed_at m level T)
    unfolding fixed_at
    kept_fixed T = (does_fix T).gives

    pub fixed_none : level ≢ 1 → (T : Memory) → fixed_at m level T ≡ T
    unfolding fixed_at run_m
    fixed_none c T = ap (λ k. (run_m k T).1) (fix_none c)

    in_area : (q : ℕ) → X q → Area m q
    in_area q h =
        let e : base + (q - base) ≡ q = omega arith in rw e at (image_area m laid (q - base) (omega (arith, laid.alone.header-inside)))

    fix-lies : (M : Memory) → WithinM (Area m) (fix base whole level) M
    fix-lies M = (does_wider X (Area m) in_area (does_fix M)).lies

    -- only the bytes of its areas matter
    pub fixed_agree : (T U : Memory) → Agree (Area m) T U → Agree (Area m) (fixed_at m level T) (fixed_at m level U)
    unfolding fixed_at
    fixed_agree T U g = (same_on (Area m) (fix base whole level) T U (fix-lies T) g).1

    -- no other part is in the header
    off-header : (o : ℕ) (r : Part) → sort r ≢ 0 → InPart F r o → o < 0x138 → ⊥
    unfolding InPart
    off-header o r n h l = apart m laid header r o (λ z. n (sym (ap sort z))) l h

    written : (o : ℕ) → W (base + o) → (o < 0x138) × (0xac ≤ o → 0x118 ≤ o)
    written o (inl h) = (omega arith, λ l. omega arith)
    written o (inr h) = (omega arith, λ l. omega arith)

    not_seen : (o : ℕ) → ReadOffset F o → W (base + o) → ⊥
    unfolding InPart
    not_seen o (in_header p g l) w = let h = written o w in absurd (omega (arith, h.1 g, l))
    not_seen o (in_table n i k l d f g c) w =
        off-header o (table n) (λ z. absurd (omega (arith, z))) (entry-in_table F n i k (omega arith) f g) (written o w).0
    not_seen o (in_external i k f g n) w = off-header o (table 5) (λ z. absurd (omega (arith, z))) (external_part m laid i k f g) (written o w).0
    not_seen o (in_string p q f z i l) w = off-header o (string p) (λ y. absurd (omega (arith, y))) (f, z, i) (written o w).0

    pub fixed_view : {T : Memory} → View m T → View m (fixed_at m level T)
    fixed_view {T} view =
        view_agree m T (fixed_at m level T) (λ o h. sym (kept_fixed T (base + o) (not_seen o (read_offset F o h)))) view

    -- the header past the list words does not move
    mark-off : (j : ℕ) → mark_at m j ≡ base + (entry F externals j + 6)
    unfolding mark_at
    mark-off j = refl

    still : (q : ℕ) → X q → VolatileByte m q → ⊥
    unfolding InPart Touched
    still q x (in_word j p k l g) =
        let e : base + (p + k - base) ≡ p + k = omega arith in
        laid.in_place_lem.words-off (external j) p g header (p + k - base) (omega arith) tt (rw e (omega arith, omega arith))
    still q x (is_mark j l) =
        let e = mark-off j in
        off-header (entry F externals j + 6) (table 5) (λ z. absurd (omega (arith, z))) (external_part m laid j 6 l (lit< tt)) (omega (arith, e, x))
    still q x (in_next k l) = absurd (omega (arith, x))
    still q x (in_previous k l) = absurd (omega (arith, x))

    in_x : (q : ℕ) → W q → X q
    in_x q (inl h) = (omega arith, omega arith)
    in_x q (inr h) = (omega arith, omega arith)

    unmoved : (M : Memory) (q : ℕ) → VolatileByte m q → (run_m (fix base whole level) M).1 q ≡ M q
    unmoved M q h = (does_fix M).gives q (λ w. still q (in_x q w) h)

    -- the bytes at rest are fixed as if nothing had moved
    rest_fixed
        : {T M : Memory} → ((q : ℕ) → Area m q → (VolatileByte m q → ⊥) → M q ≡ T q) → (q : ℕ) → Area m q → (VolatileByte m q → ⊥)
        → (run_m (fix base whole level) M).1 q ≡ fixed_at m level T q
    unfolding fixed_at
    rest_fixed {T} {M} r q s o =
        elim (dec_in (base + 0x98) 0xa0 q) [
          | yes x ↦ (same_on X (fix base whole level) M T (does_fix M).lies (λ p y. r p (in_area p y) (still p y))).1 q x
          | no x ↦ (does_fix M).gives q (λ w. x (in_x q w)) ∙ r q s o ∙ sym ((does_fix T).gives q (λ w. x (in_x q w)))
        ]

    -- whatever its links and list words
    pub fixes
        : {T : Memory} (φ : Links) (n v : ℕ) {M : Memory} → Stands m T φ n v M
        → Does (Area m) (fix base whole level) (λ _ N. Stands m (fixed_at m level T) φ n v N) M
    fixes {T} φ n v {M} s =
        record {
          lies = fix-lies M;
          gives =
              record {
                shows =
                    record {
                      words = λ j p k l h. unmoved M (p + k) (in_word j p k l h) ∙ s.shows.words j p k l h;
                      marks = λ j l. unmoved M (mark_at m j) (is_mark j l) ∙ s.shows.marks j l;
                      nexts = λ k l. unmoved M (base + 0x88 + k) (in_next k l) ∙ s.shows.nexts k l;
                      previouses = λ k l. unmoved M (base + 0x8c + k) (in_previous k l) ∙ s.shows.previouses k l;
                      rest = rest_fixed s.shows.rest;
                    };
              };
        }
