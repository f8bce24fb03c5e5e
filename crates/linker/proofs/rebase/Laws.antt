-- From the code's calls and branches to the programs of `Rebase` and the rebase of `Calls`.
use Rattle.std.specs.Prelude.{if◌then◌else◌, Option, Some, None, Ok, Err}
use Rattle.std.proofs.Common.{◌≡◌, ℕ, zero, suc, ◌+◌, ◌-◌, ◌*◌, ◌%◌, ◌^◌, ◌<◌, ◌≤◌, Bool, true, false, eqb, List, [], ◌∷◌, length, get_or, take, drop, sym, refl, ap, ◌∙◌, add-one, arith, drop_of_length-le, drop-cons, le-ltb, lt-ltb, eq-eqb, ne_eqb}
use Rattle.window.specs.Memory.{◌⊕◌}
use Rattle.window.specs.Access.{Prog, ret, ◌>>=◌, ◌>>◌, get32, put32, Reads, reads_bind}
use Rattle.window.specs.Loop.{loop, loop_reads}
use Rattle.window.specs.Trace.{State, said, run_t}
use Rattle.window.specs.TraceRuns.{given, gives, seq, then_it, pick_then, pick_else, turn_made, left}
use Rattle.window.specs.Silent.{silent_reads}
use Rattle.layout.specs.Header.{magic, name_offset, first_rebased, segment_num}
use Rattle.layout.specs.Tables.{pointer_tables, no_table}
use Rattle.layout.specs.Segments.{field, entry_at, segment, segment_reads, set_segment}
use Rattle.layout.specs.declared.format.Segment.{Segment}
use Rattle.layout.specs.declared.format.SegmentType.{SegmentType}
use Rattle.layout.specs.declared.format.SegmentType.TheVariants.{Code, RoData, Data, Bss}
use Rattle.layout.specs.declared.tables.PointerTable.{PointerTable}
use Rattle.layout.proofs.Laws.{difference}
use Rattle.linker_spec.specs.declared.rebase.LoadArguments.{LoadArguments}
use Rattle.linker_spec.specs.Refusal.{Rebased}
use Rattle.linker_spec.specs.Rebase.{is_magic, moved, move_word, move_header, at_offset, lent_place, moved_place, place, write_back, move_found, move_segment, move_segments, look_at_segments, move_pointers, pointers_of, move_table, move_tables}
use Rattle.linker_spec.specs.Relocation.{apply_internal_relocations}
use Rattle.linker_spec.specs.Calls.{relocate, rebase_with}
use Rattle.linker_spec.specs.declared.refusal.RebaseError.{RebaseError}

-- words

module _ (base value : ℕ) {forward : Bool} {r : ℕ} where
  pub moved_forward : forward ≡ true → r ≡ value ⊕ base → r ≡ moved forward base value
  moved_forward f e = rw f e

  pub moved_back : forward ≡ false → r < 2 ^ 32 → (r + base) % 2 ^ 32 ≡ value → r ≡ moved forward base value
  moved_back f l e = rw f (difference r value base l e)

module _ (at : ℕ) (forward : Bool) (base p : ℕ) (s : State) {v : ℕ} {s₁ : State} (e : (v, s₁) ≡ run_t at (get32 p) s) where
  pub word_kept : v ≡ 0 → s₁ ≡ (run_t at (move_word forward base p) s).1
  unfolding move_word
  word_kept z = then_it at (get32 p) s _ e (pick_then at s₁ v (ret tt) (put32 p (moved forward base v)) z (ap left (given at tt s₁)))

  pub word_moved
      : {m : ℕ} {u : State} → (v ≡ 0 → ⊥) → m ≡ moved forward base v → u ≡ (run_t at (put32 p m) s₁).1 → u ≡ (run_t at (move_word forward base p) s).1
  unfolding move_word
  word_moved n d h =
      then_it at (get32 p) s _ e
      (pick_else at s₁ v (ret tt) (put32 p (moved forward base v)) n (h ∙ ap (λ m. (run_t at (put32 p m) s₁).1) d))

pub header_starts
    : (at : ℕ) (forward : Bool) (base : ℕ) (s : State) {x : ℕ} {u : State} → x ≡ base ⊕ name_offset
    → u ≡ (run_t at (move_word forward base x) s).1
    → run_t at (loop (λ i _. move_word forward base (base ⊕ (first_rebased + 8 * i))) 0 17 tt) u ≡ run_t at (move_header forward base) s
unfolding move_header
header_starts at forward base s e h =
    seq at (move_word forward base (base ⊕ name_offset)) s _ (h ∙ ap (λ x. (run_t at (move_word forward base x) s).1) e)

-- where a segment goes

module _ (s : Segment) (address size old : ℕ) where
  pub lent-refused : size < s.size → None ≡ lent_place s address size old
  unfolding lent_place
  lent-refused l = rw (lt-ltb size s.size l)

  pub lent-put : {z : Segment} → s.size ≤ size → z ≡ at_offset s address → Some (z, old) ≡ lent_place s address size old
  unfolding lent_place
  lent-put l e = rw (le-ltb size s.size l, e)

module _ (l : LoadArguments) (s : Segment) (old : ℕ) where
  pub moved_none : s.offset ≡ 0 → Some (s, old) ≡ moved_place l s old
  unfolding moved_place
  moved_none z = rw (eq-eqb s.offset 0 z)

  module _ (n : s.offset ≡ 0 → ⊥) {x y : ℕ} (ex : x ≡ s.offset ⊕ l.base) (ey : y ≡ l.base ⊕ l.size) where
    pub moved-refused : y < x → None ≡ moved_place l s old
    unfolding moved_place
    moved-refused h = rw (ne_eqb s.offset 0 n, ← ex, ← ey, lt-ltb y x h)

    pub moved-put : {z : Segment} → x ≤ y → z ≡ at_offset s x → Some (z, old) ≡ moved_place l s old
    unfolding moved_place
    moved-put h e = rw (ne_eqb s.offset 0 n, ← ex, ← ey, le-ltb y x h, ← e)

  module _ {k : SegmentType} {r : Option (Segment × ℕ)} where
    pub place_code : k ≡ Code → r ≡ moved_place l s old → r ≡ place l s k old
    unfolding place
    place_code e h = rw e h

    pub place_rodata : k ≡ RoData → r ≡ moved_place l s old → r ≡ place l s k old
    unfolding place
    place_rodata e h = rw e h

    pub place_no_data : k ≡ Data → s.size ≡ 0 → r ≡ moved_place l s old → r ≡ place l s k old
    unfolding place
    place_no_data e z h = rw (e, place, eq-eqb s.size 0 z) h

    pub place_no_bss : k ≡ Bss → s.size ≡ 0 → r ≡ moved_place l s old → r ≡ place l s k old
    unfolding place
    place_no_bss e z h = rw (e, place, eq-eqb s.size 0 z) h

    pub place_data
        : {x : ℕ} → k ≡ Data → (s.size ≡ 0 → ⊥) → x ≡ s.offset ⊕ l.base → r ≡ lent_place s l.data_segment l.data_segment_size x
        → r ≡ place l s k old
    unfolding place
    place_data e n ex h = rw (e, place, ne_eqb s.size 0 n, ← ex) h

    pub place_bss
        : k ≡ Bss → (s.size ≡ 0 → ⊥) → r ≡ lent_place s l.bss_segment l.bss_segment_size old → r ≡ place l s k old
    unfolding place
    place_bss e n h = rw (e, place, ne_eqb s.size 0 n) h

-- the segments of a load

module _ (at base i : ℕ) (s : State) {p : Option (Segment × ℕ)} where
  pub back-refused : p ≡ None → (None, s) ≡ run_t at (write_back base i p) s
  unfolding write_back
  back-refused e = rw (e, write_back) (given at None s)

  pub back-put
      : {z : Segment} {old : ℕ} {v : State} → p ≡ Some (z, old) → v ≡ (run_t at (set_segment base i z) s).1
      → (Some old, v) ≡ run_t at (write_back base i p) s
  unfolding write_back
  back-put {z} {old} {v} e h = rw (e, write_back) (given at (Some old) v ∙ seq at (set_segment base i z) s (ret (Some old)) h)

module _ (at : ℕ) (l : LoadArguments) (i old : ℕ) (s : State) {found : Option Segment} {s₁ : State} (e : (found, s₁) ≡ run_t at (segment l.base i) s) where
  segment_is : run_t at (move_found l i old found) s₁ ≡ run_t at (move_segment l i (Some old)) s
  unfolding move_segment
  segment_is = gives at (segment l.base i) s (move_found l i old) e

  pub segment-passed : found ≡ None → (Some old, s₁) ≡ run_t at (move_segment l i (Some old)) s
  unfolding move_found
  segment-passed m = given at (Some old) s₁ ∙ rw (m, move_found) at segment_is

  pub segment-moved
      : {z : Segment} {p : Option (Segment × ℕ)} {r : Option ℕ × State} → found ≡ Some z → p ≡ place l z z.kind old → r ≡ run_t at (write_back l.base i p) s₁
      → r ≡ run_t at (move_segment l i (Some old)) s
  unfolding move_found
  segment-moved m f h = h ∙ ap (λ p. run_t at (write_back l.base i p) s₁) f ∙ rw (m, move_found) at segment_is

-- what follows a refusal changes nothing more
stays_bad : (at : ℕ) (l : LoadArguments) (s : State) (n i : ℕ) → run_t at (loop (move_segment l) i n None) s ≡ (None, s)
unfolding loop move_segment run_t ◌>>=◌
stays_bad at l s zero i = refl
stays_bad at l s (suc n) i = stays_bad at l s n (suc i)

module _ (at : ℕ) (l : LoadArguments) (s : State) where
  pub segments-start
      : {n : ℕ} {s₁ : State} → (n, s₁) ≡ run_t at (field l.base segment_num) s
      → run_t at (loop (move_segment l) 0 (n - 0) (Some 0)) s₁ ≡ run_t at (move_segments l) s
  unfolding move_segments
  segments-start {n} e =
      let z : n - 0 ≡ n = omega arith in
      rw z (gives at (field l.base segment_num) s (λ n. loop (move_segment l) 0 n (Some 0)) e)

  module _ (i n : ℕ) (a : Option ℕ) {m : Option ℕ} {v : State} {r : Option ℕ × State} (rest : run_t at (loop (move_segment l) i (n - i) a) s ≡ r) (h : i < n)
      (t : (m, v) ≡ run_t at (move_segment l i a) s) where
    pub segments_on : {b : Option ℕ} → m ≡ b → run_t at (loop (move_segment l) (i + 1) (n - (i + 1)) b) v ≡ r
    segments_on e = turn_made at (move_segment l) i n a s rest h (ap (λ m. (m, v)) (sym e) ∙ t)

    pub segments-refused : m ≡ None → (None, v) ≡ r
    segments-refused e = sym (stays_bad at l v (n - (i + 1)) (i + 1)) ∙ segments_on e

-- the lookups of an initialize

abbrev pub look_at : ℕ → ℕ → Unit {0} → Prog (Unit {0})
look_at base i _ = segment base i >> ret tt

module _ (at base : ℕ) where
  pub looks_start
      : (s : State) {n : ℕ} {s₁ : State} → (n, s₁) ≡ run_t at (field base segment_num) s
      → run_t at (loop (look_at base) 0 (n - 0) tt) s₁ ≡ run_t at (look_at_segments base) s
  unfolding look_at_segments
  looks_start s {n} e =
      let z : n - 0 ≡ n = omega arith in rw z (gives at (field base segment_num) s (λ n. loop (look_at base) 0 n tt) e)

  pub look_made : (i : ℕ) (s : State) {x : Option Segment} {s₁ : State} → (x, s₁) ≡ run_t at (segment base i) s → (tt, s₁) ≡ run_t at (look_at base i tt) s
  look_made i s {s₁ = s₁} e = given at tt s₁ ∙ gives at (segment base i) s (λ _. ret tt) e

  -- once a touch is kept, what only reads leaves all as it is
  pub looks_silent
      : (i n : ℕ) (w t : List ℕ) {r : Unit {0} × State} → run_t at (loop (look_at base) i (n - i) tt) (w, t) ≡ r → said t ≡ true → ◌≡◌ {A = State} (w, t) r.1
  unfolding Reads
  looks_silent i n w t rest e =
      let look : Reads (loop (look_at base) i (n - i) tt) =
      loop_reads (look_at base) i (n - i) tt (λ j _. reads_bind (segment base j) (λ _. ret tt) (segment_reads base j) (λ _. tt)) in
      sym (silent_reads at (loop (look_at base) i (n - i) tt) w t look e) ∙ ap left rest

-- pointer tables

All-three
    : (n a b c : ℕ) → (n ≡ 0 → ⊥) → (n ≡ 1 → ⊥) → (n ≡ 2 → ⊥) → take n (a ∷ b ∷ c ∷ []) ≡ a ∷ b ∷ c ∷ []
All-three zero a b c x y z = absurd (x refl)
All-three (suc zero) a b c x y z = absurd (y refl)
All-three (suc (suc zero)) a b c x y z = absurd (z refl)
All-three (suc (suc (suc zero))) a b c x y z = refl
All-three (suc (suc (suc (suc n)))) a b c x y z = refl

module _ (at : ℕ) (forward : Bool) (base entry : ℕ) where
  pub pointers-more
      : (x : ℕ) (xs : List ℕ) (s : State) {y : ℕ} {u : State} → y ≡ entry ⊕ x → u ≡ (run_t at (move_word forward base y) s).1
      → run_t at (move_pointers forward base entry xs) u ≡ run_t at (move_pointers forward base entry (x ∷ xs)) s
  unfolding move_pointers
  pointers-more x xs s e h =
      seq at (move_word forward base (entry ⊕ x)) s (move_pointers forward base entry xs) (h ∙ ap (λ y. (run_t at (move_word forward base y) s).1) e)

  module _ (s : State) (t : PointerTable) where
    pub pointers_0 : t.pointers ≡ 0 → s ≡ (run_t at (move_pointers forward base entry (pointers_of t)) s).1
    unfolding move_pointers run_t
    pointers_0 e = rw (e, move_pointers, run_t)

    module _ {x : ℕ} {s₁ : State} (e₁ : x ≡ entry ⊕ t.first) (h₁ : s₁ ≡ (run_t at (move_word forward base x) s).1) where
      pub pointers_1 : t.pointers ≡ 1 → s₁ ≡ (run_t at (move_pointers forward base entry (pointers_of t)) s).1
      unfolding move_pointers run_t
      pointers_1 e = rw e (ap left (pointers-more t.first [] s e₁ h₁))

      module _ {y : ℕ} {s₂ : State} (e₂ : y ≡ entry ⊕ t.second) (h₂ : s₂ ≡ (run_t at (move_word forward base y) s₁).1) where
        pub pointers_2 : t.pointers ≡ 2 → s₂ ≡ (run_t at (move_pointers forward base entry (pointers_of t)) s).1
        unfolding move_pointers run_t
        pointers_2 e =
            rw e (ap left (pointers-more t.second [] s₁ e₂ h₂ ∙ pointers-more t.first (t.second ∷ []) s e₁ h₁))

        pub pointers_3
            : {z : ℕ} {s₃ : State} → (t.pointers ≡ 0 → ⊥) → (t.pointers ≡ 1 → ⊥) → (t.pointers ≡ 2 → ⊥) → z ≡ entry ⊕ t.third
            → s₃ ≡ (run_t at (move_word forward base z) s₂).1 → s₃ ≡ (run_t at (move_pointers forward base entry (pointers_of t)) s).1
        unfolding move_pointers run_t
        pointers_3 n₀ n₁ n₂ e h =
            rw (All-three t.pointers t.first t.second t.third n₀ n₁ n₂)
            (ap left (pointers-more t.third [] s₂ e h ∙ pointers-more t.second (t.third ∷ []) s₁ e₂ h₂
            ∙ pointers-more t.first (t.second ∷ t.third ∷ []) s e₁ h₁))

-- one table

module _ (at : ℕ) (forward : Bool) (base : ℕ) (s : State) (t : PointerTable) {table count : ℕ} {s₁ s₂ : State}
    (et : (table, s₁) ≡ run_t at (field base t.table) s) (ec : (count, s₂) ≡ run_t at (field base t.count) s₁) where
  table_is
      : run_t at (if eqb table 0 then ret tt
      else loop (λ i _. move_pointers forward base (entry_at table i t.entry_size) (pointers_of t)) 0 count tt) s₂
      ≡ run_t at (move_table forward base t) s
  unfolding move_table
  table_is =
      gives at (field base t.count) s₁
      (λ count. if eqb table 0 then ret tt
      else loop (λ i _. move_pointers forward base (entry_at table i t.entry_size) (pointers_of t)) 0 count tt) ec
      ∙ gives at (field base t.table) s _ et

  pub table_none : table ≡ 0 → s₂ ≡ (run_t at (move_table forward base t) s).1
  unfolding run_t
  table_none z = ap left (rw (eq-eqb table 0 z, run_t) at table_is)

  pub table_starts
      : (table ≡ 0 → ⊥)
      → run_t at (loop (λ i _. move_pointers forward base (entry_at table i t.entry_size) (pointers_of t)) 0 count tt) s₂
      ≡ run_t at (move_table forward base t) s
  table_starts n = rw (ne_eqb table 0 n) at table_is

-- the tables, i of them moved
Tables-more
    : (at : ℕ) (forward : Bool) (base : ℕ) (ts : List PointerTable) (i : ℕ) (s : State) {v : State} → i < length ts
    → v ≡ (run_t at (move_table forward base (get_or ts i no_table)) s).1
    → run_t at (move_tables forward base (drop (suc i) ts)) v ≡ run_t at (move_tables forward base (drop i ts)) s
unfolding move_tables
Tables-more at forward base ts i s l h =
    rw (drop-cons ts i no_table l) (seq at (move_table forward base (get_or ts i no_table)) s (move_tables forward base (drop (suc i) ts)) h)

pub tables-turn
    : (at : ℕ) (forward : Bool) (base i : ℕ) (s : State) {t : PointerTable} {v : State} {r : Unit {0} × State}
    → run_t at (move_tables forward base (drop i pointer_tables)) s ≡ r → i < 5 → t ≡ get_or pointer_tables i no_table
    → v ≡ (run_t at (move_table forward base t) s).1 → run_t at (move_tables forward base (drop (i + 1) pointer_tables)) v ≡ r
unfolding pointer_tables
tables-turn at forward base i s rest l e h =
    rw (add-one i) (Tables-more at forward base pointer_tables i s l (h ∙ ap (λ t. (run_t at (move_table forward base t) s).1) e) ∙ rest)

pub tables-over
    : (at : ℕ) (forward : Bool) (base i : ℕ) (s : State) {r : Unit {0} × State} → run_t at (move_tables forward base (drop i pointer_tables)) s ≡ r
    → 5 ≤ i → s ≡ r.1
unfolding pointer_tables move_tables run_t
tables-over at forward base i s rest l = ap left (rw (drop_of_length-le pointer_tables l, move_tables, run_t) at rest)

-- how a rebase goes on

pub is_magic-first : (word : ℕ) → word ≡ 0x304f5243 → true ≡ is_magic word
unfolding is_magic
is_magic-first word e = rw (eq-eqb word 0x304f5243 e)

pub is_magic_second : (word : ℕ) → (word ≡ 0x304f5243 → ⊥) → eqb word 0x30535243 ≡ is_magic word
unfolding is_magic
is_magic_second word n = rw (ne_eqb word 0x304f5243 n)

pub relocated
    : (at base old : ℕ) (s : State) {u v : State} → u ≡ (run_t at (move_tables true base pointer_tables) s).1
    → v ≡ (run_t at (apply_internal_relocations base old) u).1 → (Ok tt, v) ≡ run_t at (relocate base (Some old)) s
unfolding relocate
relocated at base old s {u} {v} h g =
    given at (Ok tt) v
    ∙ seq at (apply_internal_relocations base old) u (ret (Ok tt)) g
    ∙ seq at (move_tables true base pointer_tables) s (apply_internal_relocations base old >> ret (Ok tt)) h

module _ (at base : ℕ) (segments : Prog (Option ℕ)) (s : State) {word : ℕ} {m : Bool} {s₁ : State} (e : (word, s₁) ≡ run_t at (field base magic) s)
    (d : m ≡ is_magic word) where
  rebase_is
      : run_t at (if m then move_header true base >> (segments >>= relocate base) else ret (Err RebaseError.NotACro)) s₁ ≡ run_t at (rebase_with base segments) s
  unfolding rebase_with field
  rebase_is =
      rw d (gives at (get32 (base ⊕ magic)) s
      (λ word. if is_magic word then move_header true base >> (segments >>= relocate base) else ret (Err RebaseError.NotACro)) e)

  pub rebase-not : m ≡ false → (Err RebaseError.NotACro, s₁) ≡ run_t at (rebase_with base segments) s
  unfolding run_t
  rebase-not f = rw (f, run_t) at rebase_is

  module _ (f : m ≡ true) {u v : State} {x : Option ℕ} (h : u ≡ (run_t at (move_header true base) s₁).1) (g : (x, v) ≡ run_t at segments u) where
    rebase_on : run_t at (relocate base x) v ≡ run_t at (rebase_with base segments) s
    rebase_on =
        gives at segments u (relocate base) g
        ∙ seq at (move_header true base) s₁ (segments >>= relocate base) h
        ∙ rw f at rebase_is

    pub rebase_bad : x ≡ None → (Err RebaseError.BadSegment, v) ≡ run_t at (rebase_with base segments) s
    unfolding relocate run_t
    rebase_bad b = rw (b, relocate, run_t) at rebase_on

    pub rebase_good
        : {old : ℕ} {r : Rebased × State} → x ≡ Some old → r ≡ run_t at (relocate base (Some old)) v
        → r ≡ run_t at (rebase_with base segments) s
    rebase_good b k = k ∙ ap (λ x. run_t at (relocate base x) v) (sym b) ∙ rebase_on

-- an initialize's segments: looked up, and the old place counts from 0
pub looked_at
    : (at base : ℕ) (s : State) {u : State} → u ≡ (run_t at (look_at_segments base) s).1 → (Some 0, u) ≡ run_t at {A = Option ℕ} (look_at_segments base >> ret (Some 0)) s
looked_at at base s {u} h = given at (Some 0) u ∙ seq at (look_at_segments base) s (ret (Some 0)) h
