-- A standing module's bytes: relocated words by their symbols, marks, the two list words, and all others as they were left at rest.
use Rattle.std.specs.Prelude.{if◌then◌else◌, ℕ, zero, suc, ◌+◌, ◌-◌, ◌%◌, ◌≤◌, ◌<◌, refl, ◌≢◌, eqb, Option, Some, None}
use Rattle.std.proofs.Math.Path.{◌≡◌, sym, ap}
use Rattle.std.proofs.Common.{◌∙◌, lit<, eq-eqb, ne_eqb}
use native.Mathlib.Omega.{arith}
use Rattle.std.proofs.Math.Decide.{dec_lt, ℕ_discrete}
use Rattle.window.specs.Bytes.{byte_of}
use Rattle.window.specs.Within.{In, dec_in, in_range, Agree}
use Rattle.window.specs.Mirror.{put1, put4, put1_on, put1-off, put4_on, put4-off}
use Rattle.layout.specs.Format.{relocation_type}
use Rattle.layout.specs.Relocation.Relocation.{relocated_word}
use Rattle.linker_spec.specs.Relocation.{address_or0}
use Rattle.history.specs.Image.{tables, externals, count, entry, tag, kind, addend}
use Rattle.history.specs.LoadedModule.{Image, base_of, address, Area}
use Rattle.history.specs.WellLaid.{header, table, InPart, Touched, Relocated, external, internal, WordAt, WellLaid}
use Rattle.history.specs.Steps.Wp.{Memory}
use Rattle.history.specs.Steps.View.{Seen, View, view_agree}
use Rattle.history.specs.Steps.Parts.{touched_other, ReadOffset, read_offset, read_offset_inside, read_offset_no_mark, read_offset_no_list, read_offset_no_word, image_area, part-inside, external_part, past-header, sort}

-- the word that external entry j has at p for the symbol a
unfoldable pub word_for : Option ℕ → ℕ
word_for (Some v) = v
word_for None = 0

-- another value at j
unfoldable pub upd : (ℕ → ℕ) → (j a i : ℕ) → ℕ
upd σ j a i = if eqb i j then a else σ i

pub upd_same : (σ : ℕ → ℕ) (j a : ℕ) → upd σ j a j ≡ a
unfolding upd
upd_same σ j a = rw (eq-eqb j j refl) refl

pub upd_other : (σ : ℕ → ℕ) (j a i : ℕ) → i ≢ j → upd σ j a i ≡ σ i
unfolding upd
upd_other σ j a i n = rw (ne_eqb i j n) refl

dec_patch : (x : Option ℕ) → Dec ((v : ℕ) × (x ≡ Some v))
dec_patch (Some v) = yes (v, refl)
dec_patch None = no (λ h. absurd (omega (arith, ap (λ (x : Option ℕ). sort_of x) h.1)))
  where
    sort_of : Option ℕ → ℕ
    sort_of (Some v) = 0
    sort_of None = 1

dec_at : (x : Option ℕ) → Dec ((p : ℕ) × (x ≡ Some p))
dec_at (Some p) = yes (p, refl)
dec_at None = no (λ h. absurd (omega (arith, ap (λ (x : Option ℕ). sort_of x) h.1)))
  where
    sort_of : Option ℕ → ℕ
    sort_of (Some p) = 0
    sort_of None = 1

dec_below : (P : ℕ → Type 0) → ((j : ℕ) → Dec (P j)) → (n : ℕ) → Dec ((j : ℕ) × (j < n) × P j)
dec_below P d zero = no (λ h. absurd (omega (arith, h.1)))
dec_below P d (suc n) =
    elim (d n) [
      | yes h ↦ yes (n, omega arith, h)
      | no h ↦
          elim (dec_below P d n) [
            | yes g ↦ yes (g.0, omega (arith, g.1), g.2)
            | no g ↦ no (λ k. elim (ℕ_discrete k.0 n) [ yes e ↦ h (rw e at k.2) | no e ↦ g (k.0, omega (arith, k.1, e), k.2) ])
          ]
    ]

module _ (m : Image) where
  abbrev F : ℕ → ℕ
  F = m.file

  abbrev base : ℕ
  base = base_of m.load_call

  unfoldable pub value_of : (j a p : ℕ) → ℕ
  value_of j a p = word_for (relocated_word (relocation_type (kind F externals j)) (addend F externals j) a p)

  -- where the mark of external entry j and the two list words are
  unfoldable pub mark_at : ℕ → ℕ
  mark_at j = base + (entry F externals j + 6)

  abbrev pub next_at : ℕ
  next_at = base + 0x88

  abbrev pub previous_at : ℕ
  previous_at = base + 0x8c

  -- the bytes that change while it stands
  pub data VolatileByte : ℕ → Type 0 where
    in_word : (j p k : ℕ) → k < 4 → WordAt m (external j) p → VolatileByte (p + k)
    is_mark : (j : ℕ) → j < count F externals → VolatileByte (mark_at j)
    in_next : (k : ℕ) → k < 4 → VolatileByte (next_at + k)
    in_previous : (k : ℕ) → k < 4 → VolatileByte (previous_at + k)

  -- symbols and marks of the external entries, the list words' values, and T at rest
  pub record ModuleBytes (T : Memory) (σ μ : ℕ → ℕ) (next previous : ℕ) (M : Memory) : Type 0 where
    pub words : (j p k : ℕ) → k < 4 → WordAt m (external j) p → M (p + k) ≡ byte_of k (value_of j (σ j) p)
    pub marks : (j : ℕ) → j < count F externals → M (mark_at j) ≡ μ j % 256
    pub nexts : (k : ℕ) → k < 4 → M (next_at + k) ≡ byte_of k next
    pub previouses : (k : ℕ) → k < 4 → M (previous_at + k) ≡ byte_of k previous
    pub rest : (q : ℕ) → Area m q → (VolatileByte q → ⊥) → M q ≡ T q

  module _ (laid : WellLaid m) where
    -- the cells do not overlap
    pub word_count_lem : (j p : ℕ) → WordAt m (external j) p → j < count F externals
    unfolding WordAt
    word_count_lem j p h = h.0

    pub one_place : (j p q : ℕ) → WordAt m (external j) p → WordAt m (external j) q → p ≡ q
    unfolding WordAt
    one_place j p q h g = let e : ◌≡◌ {A = Option ℕ} (Some p) (Some q) = sym h.2 ∙ g.2 in ap address_or0 e

    pub words-apart : (i j p q x : ℕ) → i ≢ j → WordAt m (external i) p → WordAt m (external j) q → In p 4 x → In q 4 x → ⊥
    words-apart i j p q x n h g a b =
        laid.in_place_lem.words-apart (external i) (external j) (λ e. n (ap number_of e)) p q h g x a b
      where
        number_of : Relocated → ℕ
        number_of (external k) = k
        number_of (internal k) = k

    pub word_no_mark : (j p i : ℕ) → WordAt m (external j) p → i < count F externals → In p 4 (mark_at i) → ⊥
    unfolding mark_at tables
    word_no_mark j p i h l a =
        laid.in_place_lem.words-off (external j) p h (table 5) (entry F externals i + 6) (external_part m laid i 6 l (lit< tt))
        (touched_other F 5 _ refl) a

    word_no_list : (j p x : ℕ) → WordAt m (external j) p → In next_at 8 x → In p 4 x → ⊥
    unfolding InPart Touched
    word_no_list j p x h l a =
        let e : base + (x - base) ≡ x = omega arith in
        laid.in_place_lem.words-off (external j) p h header (x - base) (omega arith) tt (rw e a)

    mark-past : (j : ℕ) → j < count F externals → base + 0x90 ≤ mark_at j
    unfolding mark_at
    mark-past j l =
        let h = past-header m laid (entry F externals j + 6) (table 5) (λ z. absurd (omega (arith, ap sort z)))
        (external_part m laid j 6 l (lit< tt)) in
        omega (arith, h)

    pub marks-apart : (i j : ℕ) → mark_at i ≡ mark_at j → i ≡ j
    unfolding mark_at entry
    marks-apart i j e = omega (arith, e)

    -- a symbol for one entry
    pub put_word_lem
        : {T : Memory} {σ μ : ℕ → ℕ} {n v : ℕ} {M : Memory} (j p a : ℕ) → WordAt m (external j) p → ModuleBytes T σ μ n v M
        → ModuleBytes T (upd σ j a) μ n v (put4 M p (value_of j a p))
    put_word_lem {T} {σ} {μ} {n} {v} {M} j p a h s =
        record {
          words = λ i q k l g. put i q k l g (ℕ_discrete i j);
          marks = λ i l. put4-off M p (value_of j a p) (mark_at i) (word_no_mark j p i h l) ∙ s.marks i l;
          nexts = λ k l. put4-off M p (value_of j a p) (next_at + k) (word_no_list j p (next_at + k) h (omega arith, omega arith)) ∙ s.nexts k l;
          previouses =
              λ k l.
              put4-off M p (value_of j a p) (previous_at + k) (word_no_list j p (previous_at + k) h (omega arith, omega arith)) ∙ s.previouses k l;
          rest = λ q r o. put4-off M p (value_of j a p) q (λ i. o (in_range VolatileByte p 4 q i (λ k l. in_word j p k l h))) ∙ s.rest q r o;
        }
      where
        put
            : (i q k : ℕ) → k < 4 → WordAt m (external i) q → Dec (i ≡ j)
            → put4 M p (value_of j a p) (q + k) ≡ byte_of k (value_of i (upd σ j a i) q)
        put i q k l g (yes e) =
            let z : q ≡ p = one_place j q p (rw e at g) h in
            rw (e, z, upd_same σ j a) (put4_on M p (value_of j a p) k l)
        put i q k l g (no d) =
            rw (upd_other σ j a i d)
            (put4-off M p (value_of j a p) (q + k) (λ x. words-apart i j q p (q + k) d g h (omega arith, omega arith) x) ∙ s.words i q k l g)

    -- a mark
    pub put-mark
        : {T : Memory} {σ μ : ℕ → ℕ} {n v : ℕ} {M : Memory} (j b : ℕ) → j < count F externals → ModuleBytes T σ μ n v M
        → ModuleBytes T σ (upd μ j b) n v (put1 M (mark_at j) b)
    put-mark {T} {σ} {μ} {n} {v} {M} j b h s =
        record {
          words =
              λ i q k l g.
              put1-off M (mark_at j) b (q + k) (λ e. word_no_mark i q j g h (omega (arith, e), omega (arith, e))) ∙ s.words i q k l g;
          marks = λ i l. put i l (ℕ_discrete i j);
          nexts = λ k l. put1-off M (mark_at j) b (next_at + k) (λ e. absurd (omega (arith, e, mark-past j h))) ∙ s.nexts k l;
          previouses = λ k l. put1-off M (mark_at j) b (previous_at + k) (λ e. absurd (omega (arith, e, mark-past j h))) ∙ s.previouses k l;
          rest = λ q r o. put1-off M (mark_at j) b q (λ e. o (rw e (is_mark j h))) ∙ s.rest q r o;
        }
      where
        put : (i : ℕ) → i < count F externals → Dec (i ≡ j) → put1 M (mark_at j) b (mark_at i) ≡ upd μ j b i % 256
        put i l (yes e) = rw (e, upd_same μ j b) (put1_on M (mark_at j) b)
        put i l (no d) =
            rw (upd_other μ j b i d) (put1-off M (mark_at j) b (mark_at i) (λ e. d (marks-apart i j e)) ∙ s.marks i l)

    -- a list word
    pub put_next
        : {T : Memory} {σ μ : ℕ → ℕ} {n v : ℕ} {M : Memory} (a : ℕ) → ModuleBytes T σ μ n v M → ModuleBytes T σ μ a v (put4 M next_at a)
    put_next {T} {σ} {μ} {n} {v} {M} a s =
        record {
          words = λ i q k l g. put4-off M next_at a (q + k) (λ x. word_no_list i q (q + k) g (omega arith, omega arith) (omega arith, omega arith))
              ∙ s.words i q k l g;
          marks = λ i l. put4-off M next_at a (mark_at i) (λ x. absurd (omega (arith, x, mark-past i l))) ∙ s.marks i l;
          nexts = λ k l. put4_on M next_at a k l;
          previouses = λ k l. put4-off M next_at a (previous_at + k) (λ x. absurd (omega (arith, x))) ∙ s.previouses k l;
          rest = λ q r o. put4-off M next_at a q (λ i. o (in_range VolatileByte next_at 4 q i in_next)) ∙ s.rest q r o;
        }

    pub put-previous
        : {T : Memory} {σ μ : ℕ → ℕ} {n v : ℕ} {M : Memory} (a : ℕ) → ModuleBytes T σ μ n v M → ModuleBytes T σ μ n a (put4 M previous_at a)
    put-previous {T} {σ} {μ} {n} {v} {M} a s =
        record {
          words = λ i q k l g. put4-off M previous_at a (q + k)
              (λ x. word_no_list i q (q + k) g (omega arith, omega arith) (omega arith, omega arith)) ∙ s.words i q k l g;
          marks = λ i l. put4-off M previous_at a (mark_at i) (λ x. absurd (omega (arith, x, mark-past i l))) ∙ s.marks i l;
          nexts = λ k l. put4-off M previous_at a (next_at + k) (λ x. absurd (omega (arith, x))) ∙ s.nexts k l;
          previouses = λ k l. put4_on M previous_at a k l;
          rest = λ q r o. put4-off M previous_at a q (λ i. o (in_range VolatileByte previous_at 4 q i in_previous)) ∙ s.rest q r o;
        }

    -- all of it lies in the module's areas
    pub moving_area : (q : ℕ) → VolatileByte q → Area m q
    unfolding mark_at
    moving_area q (in_word j p k l h) = laid.in_place_lem.words_inside_lem (external j) p h (p + k) (omega arith, omega arith)
    moving_area q (is_mark j l) =
        image_area m laid (entry F externals j + 6) (part-inside m laid (table 5) _ (external_part m laid j 6 l (lit< tt)))
    moving_area q (in_next k l) =
        let e : base + (0x88 + k) ≡ next_at + k = omega arith in rw e at (image_area m laid (0x88 + k) (omega (arith, laid.alone.header-inside)))
    moving_area q (in_previous k l) =
        let e : base + (0x8c + k) ≡ previous_at + k = omega arith in
        rw e at (image_area m laid (0x8c + k) (omega (arith, laid.alone.header-inside)))

    -- so only the bytes of its areas matter
    pub shows_agree
        : {T : Memory} {σ μ : ℕ → ℕ} {n v : ℕ} {M N : Memory} → Agree (Area m) M N → ModuleBytes T σ μ n v M → ModuleBytes T σ μ n v N
    shows_agree g s =
        record {
          words = λ j p k l h. sym (g (p + k) (moving_area (p + k) (in_word j p k l h))) ∙ s.words j p k l h;
          marks = λ j l. sym (g (mark_at j) (moving_area (mark_at j) (is_mark j l))) ∙ s.marks j l;
          nexts = λ k l. sym (g (next_at + k) (moving_area (next_at + k) (in_next k l))) ∙ s.nexts k l;
          previouses = λ k l. sym (g (previous_at + k) (moving_area (previous_at + k) (in_previous k l))) ∙ s.previouses k l;
          rest = λ q a o. sym (g q a) ∙ s.rest q a o;
        }

    -- what is seen does not move
    pub mark_offset : (o j : ℕ) → mark_at j ≡ base + o → o ≡ entry F externals j + 6
    unfolding mark_at
    mark_offset o j e = omega (arith, e)

    seen_still : (o : ℕ) → Seen F o → VolatileByte (base + o) → ⊥
    seen_still o h i = go o (base + o) refl (read_offset F o h) i
      where
        go : (o q : ℕ) → q ≡ base + o → ReadOffset F o → VolatileByte q → ⊥
        go o q e s (in_word j p k l g) = read_offset_no_word m laid o s (external j) p g (omega (arith, e), omega (arith, e))
        go o q e s (is_mark j l) = read_offset_no_mark m laid o s j l (mark_offset o j e)
        go o q e s (in_next k l) = absurd (omega (arith, e, read_offset_no_list m laid o s))
        go o q e s (in_previous k l) = absurd (omega (arith, e, read_offset_no_list m laid o s))

    pub shows_view : {T : Memory} {σ μ : ℕ → ℕ} {n v : ℕ} {M : Memory} → View m T → ModuleBytes T σ μ n v M → View m M
    shows_view {T} {σ} {μ} {n} {v} {M} w s =
        view_agree m T M
        (λ o h. sym (s.rest (base + o) (image_area m laid o (read_offset_inside m laid o (read_offset F o h))) (seen_still o h))) w

    -- what moves is decided by a look at each external entry
    dec_word : (j q : ℕ) → Dec ((p : ℕ) × WordAt m (external j) p × In p 4 q)
    unfolding WordAt
    dec_word j q =
        go (dec_lt j (count F externals)) (dec_patch (relocated_word (relocation_type (kind F externals j)) 0 0 0))
        (dec_at (address m (tag F externals j)))
      where
        go
            : Dec (j < count F externals) → Dec ((v : ℕ) × (relocated_word (relocation_type (kind F externals j)) 0 0 0 ≡ Some v))
            → Dec ((p : ℕ) × (address m (tag F externals j) ≡ Some p)) → Dec ((p : ℕ) × WordAt m (external j) p × In p 4 q)
        go (no n) b c = no (λ h. n h.1.0)
        go (yes a) (no n) c = no (λ h. n h.1.1)
        go (yes a) (yes b) (no n) = no (λ h. n (h.0, h.1.2))
        go (yes a) (yes b) (yes (p, e)) = inner (dec_in p 4 q)
          where
            inner : Dec (In p 4 q) → Dec ((x : ℕ) × WordAt m (external j) x × In x 4 q)
            inner (yes i) = yes (p, (a, b, e), i)
            inner (no n) = no (λ h. n (rw (one_place j p h.0 (a, b, e) h.1) h.2))

    pub dec_moving : (q : ℕ) → Dec (VolatileByte q)
    dec_moving q =
        go (dec_below (λ j. (p : ℕ) × WordAt m (external j) p × In p 4 q) (λ j. dec_word j q) (count F externals))
        (dec_below (λ j. mark_at j ≡ q) (λ j. ℕ_discrete (mark_at j) q) (count F externals)) (dec_in next_at 8 q)
      where
        go
            : Dec ((j : ℕ) × (j < count F externals) × ((p : ℕ) × WordAt m (external j) p × In p 4 q))
            → Dec ((j : ℕ) × (j < count F externals) × (mark_at j ≡ q)) → Dec (In next_at 8 q) → Dec (VolatileByte q)
        go (yes (j, l, (p, h, i))) b c = yes (in_range VolatileByte p 4 q i (λ k g. in_word j p k g h))
        go (no a) (yes (j, l, e)) c = yes (rw e at (is_mark j l))
        go (no a) (no b) (yes i) =
            elim (dec_lt q (next_at + 4)) [
              | yes h ↦ yes (in_range VolatileByte next_at 4 q (omega arith, h) in_next)
              | no h ↦ yes (in_range VolatileByte previous_at 4 q (omega arith, omega arith) in_previous)
            ]
        go (no a) (no b) (no c) = no none
          where
            none : VolatileByte q → ⊥
            none h = off q refl h
              where
                off : (x : ℕ) → x ≡ q → VolatileByte x → ⊥
                off x e (in_word j p k l g) = a (j, word_count_lem j p g, (p, g, (omega (arith, e), omega (arith, e))))
                off x e (is_mark j l) = b (j, l, e)
                off x e (in_next k l) = c (omega (arith, e), omega (arith, e))
                off x e (in_previous k l) = c (omega (arith, e), omega (arith, e))

    -- and the values say every byte
    pub shows_unique
        : {T U : Memory} {σ μ : ℕ → ℕ} {n v : ℕ} {M N : Memory} → Agree (Area m) T U → ModuleBytes T σ μ n v M → ModuleBytes U σ μ n v N → Agree (Area m) M N
    shows_unique {T} {U} {σ} {μ} {n} {v} {M} {N} g s t q a =
        elim (dec_moving q) [ yes h ↦ moves q h | no h ↦ s.rest q a h ∙ g q a ∙ sym (t.rest q a h) ]
      where
        moves : (q : ℕ) → VolatileByte q → M q ≡ N q
        moves q (in_word j p k l h) = s.words j p k l h ∙ sym (t.words j p k l h)
        moves q (is_mark j l) = s.marks j l ∙ sym (t.marks j l)
        moves q (in_next k l) = s.nexts k l ∙ sym (t.nexts k l)
        moves q (in_previous k l) = s.previouses k l ∙ sym (t.previouses k l)
