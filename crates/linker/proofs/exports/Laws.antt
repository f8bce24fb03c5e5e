-- From the code's steps and loops to `DraftStep`.
use Rattle.std.proofs.Common.{◌≡◌, ℕ, suc, ◌+◌, ◌-◌, ◌*◌, ◌/◌, ◌^◌, ◌<◌, ◌≤◌, Bool, true, false, ltb, leb, List, [], ◌++◌, length, take, drop, replicate, sym, refl, ap, ◌∙◌, subst, append_assoc, arith, length-append, length-drop, take-append-drop, length-take-le, take-take, leb-false, leb-true, Option, Some, None}
use lib.Seq.{sets, sets-eq, length-sets}
use borrow.Rule.Slice.PartMut.{put_mid, Post-is, mid_of, same_len_mid, mid_len}
use Rattle.window.specs.Memory.{◌⊕◌, word_at}
use Rattle.window.specs.Word.{set_word_in}
use Rattle.window.specs.Access.{run}
use Rattle.window.specs.Outside.{stride_of}
use Rattle.layout.specs.Header.{export_named_symbol_table_offset, export_named_symbol_num, export_named_symbol_entry_size, export_indexed_symbol_table_offset, export_indexed_symbol_num, export_indexed_symbol_entry_size, segment_num}
use Rattle.layout.specs.Segments.{field, field-word, entry_at, tag_to_address}
use Rattle.register.specs.Module.{Export, Module}
use Rattle.register.specs.Words.{part, flat}
use Rattle.register.specs.Buffers.{length-flat}
use Rattle.register.specs.CheckComplete.{length-export_words}
use Rattle.register.specs.Encode.{export_words, export_names, module_names, module_words}
use Rattle.register.specs.Change.{with_segment, with_indexed, with_named, put_named}
use Rattle.register.specs.declared.append.draft.Draft.{Draft}
use Rattle.register.specs.Append.Draft.{room_in, room-inside, opened, opened-parts, push_listed, given_up, room_word}
use Rattle.register.specs.Append.Held.{words_long, Held}
use Rattle.register.specs.Append.Sets.{sets_append}
use Rattle.register.specs.Append.Laid.{part_sets}
use Rattle.register.specs.Append.Append.{given_up_lem, cut_short}
use Rattle.register.specs.Append.Steps.{held_ready, ready_open}
use Rattle.linker_spec.specs.Relocation.{address_or0}
use Rattle.linker_spec.specs.Exports.{read_segments, named_exports, indexed_exports, put_usable}
use Rattle.linker.specs.Record.Read.{header_word, segment_of, segments_to, length-segments, named_entry, name_of, address_of, named_to, named_gives, indexed_entry, indexed_of, indexed_to, indexed_gives, at_most16, segments_give, named_past}
use Rattle.linker.specs.Record.Tried.{tried}
use Rattle.linker.specs.Exports.Writing.{Ground, Writing, Grows, named, roomy, no_words, none_greater, held, ends, same-room, gone, writing_is, segment-tried, indexed_tried, starts, begins, roomy-named, and_no}
use Rattle.linker.specs.Exports.Waiting.{Waiting, Waits, name_for, exports_for, length_exports, waiting_words, length-bytes}
use Rattle.linker.specs.Exports.Gathered.{Gathered, GatherStep, GatheredAll, Gathered-none, gathered_long, gathered-waits, gathered-gone, gathered-written, EndsWithin}
use Rattle.linker.specs.Exports.Puts.{named_from, from_start}
use Rattle.linker.specs.Exports.Sorted.{Sorted, sorted_taken}
use Rattle.linker.specs.Exports.Modules.{with_segments, with_indexeds, segments-more, indexeds_more, segments-rest, segments_grow, indexeds_grow, named_grow, named-longer, length_indexed, full_greater, DraftStep, Bare, Unindexed, AnyModule}
use Rattle.linker.proofs.waiting.Laws.{ends_open}

-- a loop whose turn i makes F m (i + 1) of F m i

module _ (P : Module → Type 0) (F : Module → ℕ → Module) (d₀ : Draft) (rs₀ ns₀ : List ℕ) (d : Draft) (rs ns : List ℕ) (i : ℕ)
    (so_far : DraftStep P (λ m. F m 0) (λ m. F m i) d₀ rs₀ ns₀ (Some d) rs ns) (r : Option Draft) (rs' ns' : List ℕ)
    (turn : DraftStep P (λ m. F m i) (λ m. F m (i + 1)) d rs ns r rs' ns') where
  pub turn_open : (more : Draft) → r ≡ Some more → DraftStep P (λ m. F m 0) (λ m. F m (i + 1)) d₀ rs₀ ns₀ (Some more) rs' ns'
  turn_open more e g m p h = subst (λ t. Writing g (F m (i + 1)) t rs' ns') e (turn g m p (so_far g m p h))

  pub turn_full
      : (n : ℕ) → ((g : Ground) (m : Module) → Grows g (F m (i + 1)) (F m n)) → r ≡ None
      → DraftStep P (λ m. F m 0) (λ m. F m n) d₀ rs₀ ns₀ None rs' ns'
  turn_full n grow e g m p h =
      full_greater g (F m (i + 1)) (F m n) rs' ns' (grow g m) (subst (λ t. Writing g (F m (i + 1)) t rs' ns') e (turn g m p (so_far g m p h)))

-- nothing done yet
pub no_turn : (P : Module → Type 0) (F : Module → Module) (d : Draft) (rs ns : List ℕ) → DraftStep P F F d rs ns (Some d) rs ns
no_turn P F d rs ns g m p h = h

-- segments

module _ (at : ℕ) (w : List ℕ) (base : ℕ) where
  abbrev pub WithSegmentsTo : Module → ℕ → Module
  WithSegmentsTo m i = with_segments m (segments_to at w base i)

  next-segment : (m : Module) (i : ℕ) → with_segment (WithSegmentsTo m i) (segment_of at w base i) ≡ WithSegmentsTo m (i + 1)
  unfolding segments_to
  next-segment m i =
      let s : suc i ≡ i + 1 = omega arith in
      segments-more m (segments_to at w base i) (segment_of at w base i) ∙ ap (λ k. WithSegmentsTo m k) s

  pub added_segment
      : (i a : ℕ) (d : Draft) (rs ns : List ℕ) (after r : Option Draft) (rs₁ rs₂ ns₂ : List ℕ) → a ≡ segment_of at w base i → a < 2 ^ 32
      → ◌≡◌ {A = Option Draft × List ℕ} (after, rs₁) (push_listed rs d 5 a) → ◌≡◌ {A = Option Draft × List ℕ × List ℕ} (r, rs₂, ns₂) (tried d after rs₁ ns)
      → DraftStep Bare (λ m. WithSegmentsTo m i) (λ m. WithSegmentsTo m (i + 1)) d rs ns r rs₂ ns₂
  added_segment i a d rs ns after r rs₁ rs₂ ns₂ ea small ep et g m bare h =
      let rest = segments-rest m (segments_to at w base i) in
      let t = segment-tried g (WithSegmentsTo m i) d rs ns h a small (rest.0 ∙ bare.0) (rest.1 ∙ bare.1) in
      let e : ◌≡◌ {A = Option Draft × List ℕ × List ℕ} (r, rs₂, ns₂) (tried d (push_listed rs d 5 a).0 (push_listed rs d 5 a).1 ns) =
      et ∙ ap (λ (x : Option Draft × List ℕ). tried d x.0 x.1 ns) ep in
      subst (λ x. Writing g x r rs₂ ns₂) (ap (with_segment (WithSegmentsTo m i)) ea ∙ next-segment m i)
      (writing_is g (with_segment (WithSegmentsTo m i) a) e t)

  pub segments_to_lem : (i n : ℕ) → i ≤ n → (g : Ground) (m : Module) → Grows g (WithSegmentsTo m i) (WithSegmentsTo m n)
  segments_to_lem i n h g m =
      segments_grow g m (segments_to at w base i) (segments_to at w base n) (omega (arith, h, length-segments at w base i, length-segments at w base n))

  abbrev pub segments_all : ℕ
  segments_all = at_most16 (header_word at w base segment_num)

  pub segments-count : {f n : ℕ} → f ≡ (run at (field base segment_num) w).0 → n ≡ at_most16 f → n ≡ segments_all
  segments-count e h = h ∙ ap at_most16 (e ∙ field-word at base segment_num w)

  -- all segments added
  pub segments-done
      : (n : ℕ) (d₀ : Draft) (rs₀ ns₀ : List ℕ) (r : Option Draft) (rs ns : List ℕ) → n ≡ segments_all
      → DraftStep Bare (λ m. WithSegmentsTo m 0) (λ m. WithSegmentsTo m n) d₀ rs₀ ns₀ r rs ns
      → DraftStep Bare (λ m. with_segments m []) (λ m. with_segments m (run at (read_segments base) w).0) d₀ rs₀ ns₀ r rs ns
  unfolding segments_to
  segments-done n d₀ rs₀ ns₀ r rs ns e t g m p h =
      subst (λ xs. Writing g (with_segments m xs) r rs ns)
      (ap (segments_to at w base) e ∙ sym (ap (λ (x : List ℕ × List ℕ). x.0) (segments_give at w base))) (t g m p h)

-- indexed exports

module _ (at : ℕ) (w : List ℕ) (base : ℕ) where
  abbrev pub WithIndexedTo : Module → ℕ → Module
  WithIndexedTo m i = with_indexeds m (indexed_to at w base i)

  next_indexed : (m : Module) (i : ℕ) → with_indexed (WithIndexedTo m i) (indexed_of at w base i) ≡ WithIndexedTo m (i + 1)
  unfolding indexed_to
  next_indexed m i =
      let s : suc i ≡ i + 1 = omega arith in
      indexeds_more m (indexed_to at w base i) (indexed_of at w base i) ∙ ap (λ k. WithIndexedTo m k) s

  pub added_indexed
      : (i table entry a : ℕ) (d : Draft) (rs ns : List ℕ) (after r : Option Draft) (rs₁ rs₂ ns₂ : List ℕ)
      → entry ≡ entry_at table i export_indexed_symbol_entry_size → a ≡ address_or0 (run at (tag_to_address base (word_at at w entry)) w).0 → a < 2 ^ 32
      → ◌≡◌ {A = Option Draft × List ℕ} (after, rs₁) (push_listed rs d 7 a) → ◌≡◌ {A = Option Draft × List ℕ × List ℕ} (r, rs₂, ns₂) (tried d after rs₁ ns)
      → table ≡ header_word at w base export_indexed_symbol_table_offset
      → DraftStep AnyModule (λ m. WithIndexedTo m i) (λ m. WithIndexedTo m (i + 1)) d rs ns r rs₂ ns₂
  added_indexed i table entry a d rs ns after r rs₁ rs₂ ns₂ ee ea small ep et h g m any k =
      let t = indexed_tried g (WithIndexedTo m i) d rs ns k a small in
      let e : ◌≡◌ {A = Option Draft × List ℕ × List ℕ} (r, rs₂, ns₂) (tried d (push_listed rs d 7 a).0 (push_listed rs d 7 a).1 ns) =
      et ∙ ap (λ (x : Option Draft × List ℕ). tried d x.0 x.1 ns) ep in
      let en : entry ≡ indexed_entry at w base i = ee ∙ ap (λ t. entry_at t i export_indexed_symbol_entry_size) h in
      let ad : a ≡ indexed_of at w base i = ea ∙ ap (λ x. address_or0 (run at (tag_to_address base (word_at at w x)) w).0) en in
      subst (λ x. Writing g x r rs₂ ns₂) (ap (with_indexed (WithIndexedTo m i)) ad ∙ next_indexed m i)
      (writing_is g (with_indexed (WithIndexedTo m i) a) e t)

  pub indexed_to_lem : (i n : ℕ) → i ≤ n → (g : Ground) (m : Module) → Grows g (WithIndexedTo m i) (WithIndexedTo m n)
  indexed_to_lem i n h g m =
      indexeds_grow g m (indexed_to at w base i) (indexed_to at w base n) (omega (arith, h, length_indexed at w base i, length_indexed at w base n))

  -- each takes a word, so where so many have no room, there is none for all
  pub indexed_too_many
      : (n : ℕ) (d : Draft) (rs ns rs₁ ns₁ : List ℕ) {room : Bool} → room ≡ leb (d.end + 4 * n) (room_in (length rs)) → room ≡ false
      → ◌≡◌ {A = List ℕ × List ℕ} (rs₁, ns₁) (given_up rs ns d) → DraftStep AnyModule (λ m. WithIndexedTo m 0) (λ m. WithIndexedTo m n) d rs ns None rs₁ ns₁
  unfolding indexed_to with_indexeds
  indexed_too_many n d rs ns rs₁ ns₁ {room} e full u g m any h =
      let q = named g in
      let l : room_in (length rs) < d.end + 4 * n = leb-false (d.end + 4 * n) (room_in (length rs)) (sym e ∙ full) in
      let s : room_in (length rs) ≡ room_in (length g.records) = ap room_in (same-room g (WithIndexedTo m 0) d rs ns h) in
      let none : roomy g (WithIndexedTo m n) ≡ false =
      no_words g (WithIndexedTo m n)
      (omega (arith, l, s, ends g (WithIndexedTo m 0) d rs ns h, words_long q (WithIndexedTo m 0), words_long q (WithIndexedTo m n), length_indexed at w base n)) in
      subst (λ (x : List ℕ × List ℕ). Writing g (WithIndexedTo m n) None x.0 x.1) (sym u) (gone g (WithIndexedTo m 0) d rs ns h (WithIndexedTo m n) none)

  pub indexed_done
      : (n : ℕ) (d₀ : Draft) (rs₀ ns₀ : List ℕ) (r : Option Draft) (rs ns : List ℕ) → n ≡ (run at (field base export_indexed_symbol_num) w).0
      → DraftStep AnyModule (λ m. WithIndexedTo m 0) (λ m. WithIndexedTo m n) d₀ rs₀ ns₀ r rs ns
      → DraftStep AnyModule (λ m. with_indexeds m []) (λ m. with_indexeds m (run at (indexed_exports base) w).0) d₀ rs₀ ns₀ r rs ns
  unfolding indexed_to
  indexed_done n d₀ rs₀ ns₀ r rs ns e t g m p h =
      subst (λ xs. Writing g (with_indexeds m xs) r rs ns)
      (ap (indexed_to at w base) (e ∙ field-word at base export_indexed_symbol_num w)
      ∙ sym (ap (λ (x : List ℕ × List ℕ). x.0) (indexed_gives at w base))) (t g m p h)

-- named exports, gathered

module _ (at : ℕ) (w : List ℕ) (base : ℕ) where
  module _ (i table entry p₄ tag : ℕ) (x : Option ℕ) (ee : entry ≡ entry_at table i export_named_symbol_entry_size)
      (e₄ : p₄ ≡ entry ⊕ 4) (et : tag ≡ word_at at w p₄) (ex : x ≡ (run at (tag_to_address base tag) w).0)
      (h : table ≡ header_word at w base export_named_symbol_table_offset) where
    pub the_entry : entry ≡ named_entry at w base i
    the_entry = ee ∙ ap (λ t. entry_at t i export_named_symbol_entry_size) h

    pub the_address : x ≡ address_of at w base i
    the_address = ex ∙ ap (λ t. (run at (tag_to_address base t) w).0) (et ∙ ap (word_at at w) (e₄ ∙ ap (λ t. t ⊕ 4) the_entry))

    next-named : put_usable (named_to at w base i) (name_of at w base i) x ≡ named_to at w base (i + 1)
    unfolding named_to
    next-named =
        let s : suc i ≡ i + 1 = omega arith in
        ap (put_usable (named_to at w base i) (name_of at w base i)) the_address ∙ ap (named_to at w base) s

    -- an unusable tag adds nothing
    pub passed-named : x ≡ None → named_to at w base i ≡ named_to at w base (i + 1)
    unfolding put_usable
    passed-named z = ap (put_usable (named_to at w base i) (name_of at w base i)) (sym z) ∙ next-named

    pub added_named
        : (a place : ℕ) → x ≡ Some a → place ≡ word_at at w entry → put_named (named_to at w base i) (name_for at w place) a ≡ named_to at w base (i + 1)
    unfolding put_usable
    added_named a place z el =
        ap (λ t. put_named (named_to at w base i) (name_for at w t) a) (el ∙ ap (word_at at w) the_entry)
        ∙ ap (put_usable (named_to at w base i) (name_of at w base i)) (sym z) ∙ next-named

  named_to_lem : (i n : ℕ) → i ≤ n → (g : Ground) (m : Module) → Grows g (with_named m (named_to at w base i)) (with_named m (named_to at w base n))
  named_to_lem i n h g m =
      let e : n - i + i ≡ n = omega arith in
      let l = named-longer at w base (n - i) i in
      named_grow g m (named_to at w base i) (named_to at w base n)
      (subst (λ k. length (named_to at w base i) ≤ length (named_to at w base k)) e l.0)
      (subst (λ k. length (export_names (named_to at w base i)) ≤ length (export_names (named_to at w base k))) e l.1)

  -- after i entries, of a record that began without exports
  abbrev pub GatheredTo : ℕ → Draft → Draft → List ℕ → List ℕ → List ℕ → List ℕ → Type 0
  GatheredTo i first last rs₀ ns₀ rs ns =
      (g : Ground) (m : Module) → Bare m → Writing g m (Some first) rs₀ ns₀ → Gathered at w g m first (named_to at w base i) last rs ns

  pub gathered-first : (first : Draft) (rs ns : List ℕ) → GatheredTo 0 first first rs ns rs ns
  unfolding named_to
  gathered-first first rs ns g m p h = Gathered-none at w g m first rs ns p.0 p.1 h

  -- the module's list is what all entries give
  all_named : {n : ℕ} → n ≡ (run at (field base export_named_symbol_num) w).0 → named_to at w base n ≡ (run at (named_exports base) w).0
  all_named e =
      ap (named_to at w base) (e ∙ field-word at base export_named_symbol_num w)
      ∙ sym (ap (λ (x : List Export × List ℕ). x.0) (named_gives at w base))

  module _ (first last : Draft) (rs₀ ns₀ rs ns : List ℕ) where
    pub gathered-last
        : (n : ℕ) → n ≡ (run at (field base export_named_symbol_num) w).0 → GatheredTo n first last rs₀ ns₀ rs ns → (g : Ground) (m : Module) → Bare m
        → Writing g m (Some first) rs₀ ns₀ → GatheredAll at w g m first (run at (named_exports base) w).0 (Some last) rs ns
    unfolding GatheredAll
    gathered-last n e t g m p h = subst (λ xs. Gathered at w g m first xs last rs ns) (all_named e) (t g m p h)

    -- entry i made, a stride passes over those wholly outside
    pub gathered-past
        : (i left : ℕ) {table entry k : ℕ} → table ≡ (run at (field base export_named_symbol_table_offset) w).0
        → entry ≡ entry_at table i export_named_symbol_entry_size → k ≡ stride_of at (length w) entry export_named_symbol_entry_size left → 0 < left
        → GatheredTo (i + 1) first last rs₀ ns₀ rs ns → GatheredTo (i + k) first last rs₀ ns₀ rs ns
    gathered-past i left et ee ek l t g m p h =
        subst (λ xs. Gathered at w g m first xs last rs ns)
        (named_past at w base i left
        (ee ∙ ap (λ table. entry_at table i export_named_symbol_entry_size) (et ∙ field-word at base export_named_symbol_table_offset w)) ek l)
        (t g m p h)

    -- the turn of entry i

    abbrev Turn : ℕ → Option Draft → List ℕ → Type 0
    Turn i r rs' =
        (g : Ground) (m : Module) (first' : Draft) → first.end ≡ first'.end → Gathered at w g m first' (named_to at w base i) last rs ns
        → GatherStep at w g m first' (named_to at w base (i + 1)) r rs rs' ns

    module _ (i : ℕ) (t : GatheredTo i first last rs₀ ns₀ rs ns) (r : Option Draft) (rs' : List ℕ) (turn : Turn i r rs') where
      pub gathered-turn : (next : Draft) → r ≡ Some next → GatheredTo (i + 1) first next rs₀ ns₀ rs' ns
      unfolding GatherStep
      gathered-turn next e g m p h =
          subst (λ x. GatherStep at w g m first (named_to at w base (i + 1)) x rs rs' ns) e (turn g m first refl (t g m p h))

      pub gathered-given_up
          : (n : ℕ) → i + 1 ≤ n → n ≡ (run at (field base export_named_symbol_num) w).0 → r ≡ None → {rs'' ns'' : List ℕ}
          → ◌≡◌ {A = List ℕ × List ℕ} (rs'', ns'')
          (given_up rs' ns (record { start = first.start; end = last.end; names = first.names; last = first.last }))
          → (g : Ground) (m : Module) → Bare m → Writing g m (Some first) rs₀ ns₀
          → GatheredAll at w g m first (run at (named_exports base) w).0 None rs'' ns''
      unfolding GatherStep GatheredAll
      gathered-given_up n l en e {rs''} {ns''} f g m p h =
          let k = t g m p h in
          let s = subst (λ x. GatherStep at w g m first (named_to at w base (i + 1)) x rs rs' ns) e (turn g m first refl k) in
          let d : Draft = record { start = first.start; end = last.end; names = first.names; last = first.last } in
          let z : ◌≡◌ {A = List ℕ × List ℕ} (rs'', ns'') (g.records, g.names) = f ∙ ap (λ x. given_up x ns d) s.0 ∙ gathered-gone at w g m first k in (
            ap (λ (x : List ℕ × List ℕ). x.0) z,
            ap (λ (x : List ℕ × List ℕ). x.1) z,
            subst (λ xs. roomy g (with_named m xs) ≡ false) (all_named en)
                (none_greater g (with_named m (named_to at w base (i + 1))) (with_named m (named_to at w base n)) (named_to_lem (i + 1) n l g m) s.1),
          )

-- named exports written, where all were gathered

pub open_draft
    : (d : Draft) (records : List ℕ) {t : Bool} → t ≡ opened d records → t ≡ true
    → (d.start + 32 ≤ d.end) × (d.end ≤ room_in (length records)) × (d.last ≤ 0xffff_ffff)
open_draft d records e z = opened-parts d records (sym e ∙ z)

named_again : (m : Module) (xs : List Export) → with_named (with_named m []) xs ≡ with_named m xs
unfolding with_named
named_again m xs = refl

no_named_yet : (m : Module) → Unindexed m → Bare (with_named m [])
unfolding with_named
no_named_yet m p = (refl, p)

module _ (d : Draft) (rs ns : List ℕ) (xs : List Export) where
  -- a draft that is not open holds no record
  pub shut_named
      : {t : Bool} → t ≡ opened d rs → t ≡ false → DraftStep Unindexed (λ m. with_named m []) (λ m. with_named m xs) d rs ns None rs ns
  shut_named e z g m p h =
      let k = held g (with_named m []) d rs ns h in
      let o : opened d rs ≡ true = ready_open d rs ns (held_ready g.records g.names d (with_named m []) rs ns k) in
      let y : ◌≡◌ {A = Bool} false true = sym z ∙ e ∙ o in
      absurd (let q : ◌≡◌ {A = ℕ} 0 1 = cc in omega arith)

  module _ (at : ℕ) (w : List ℕ) (r : Option Draft) (rs₁ ns₁ : List ℕ)
      (all : (g : Ground) (m : Module) → Bare m → Writing g m (Some d) rs ns → GatheredAll at w g m d xs r rs₁ ns₁) where
    pub full_named : r ≡ None → DraftStep Unindexed (λ m. with_named m []) (λ m. with_named m xs) d rs ns None rs₁ ns₁
    unfolding GatheredAll Writing
    full_named e g m p h =
        let k = subst (λ x. GatheredAll at w g (with_named m []) d xs x rs₁ ns₁) e (all g (with_named m []) (no_named_yet m p) h) in
        (k.0, k.1, ap (roomy g) (sym (named_again m xs)) ∙ k.2)

    -- written: the names and the three words of each, then the count
    pub written-named
        : (last : Draft) {bytes ns₂ rs₂ : List ℕ} → r ≡ Some last → d.end ≤ last.end
        → ((ys : List Waiting) (first : ℕ) → length (take (last.end - d.end) (drop d.end rs₁)) ≡ 12 * length ys
        → Waits at w ys (take (8 * length ys) (take (last.end - d.end) (drop d.end rs₁)))
        → first + length (export_names (exports_for at w ys)) ≡ last.last
        → (bytes ≡ flat (export_words first (exports_for at w ys))) × (ns₂ ≡ sets ns₁ first (export_names (exports_for at w ys))))
        → rs₂ ≡ set_word_in (put_mid d.end (last.end - d.end) rs₁ bytes) (d.start + 24) ((last.end - d.end) / 12)
        → DraftStep Unindexed (λ m. with_named m []) (λ m. with_named m xs) d rs ns (Some last) rs₂ ns₂
    unfolding GatheredAll
    written-named last {bytes} {ns₂} {rs₂} e l wn es g m p h =
        let m' = with_named m [] in
        let k : Gathered at w g m' d xs last rs₁ ns₁ = subst (λ x. GatheredAll at w g m' d xs x rs₁ ns₁) e (all g m' (no_named_yet m p) h) in
        let q = d.last in
        let x = export_words q xs in
        let ys = k.waiting in
        let size : length ys ≡ length xs = sym (length_exports at w ys) ∙ ap length k.are in
        let lx : length (flat x) ≡ 12 * length xs = length-flat x ∙ omega (arith, length-export_words q xs) in
        let lr : length rs₁ ≡ length g.records = gathered_long at w g m' d k in
        let part-long : length (take (last.end - d.end) (drop d.end rs₁)) ≡ last.end - d.end =
        length-take-le (last.end - d.end) (drop d.end rs₁)
        (omega (arith, length-drop d.end rs₁, k.room, room-inside (length g.records), lr)) in
        let waits : Waits at w ys (take (8 * length ys) (take (last.end - d.end) (drop d.end rs₁))) =
        subst (Waits at w ys) (sym (take-take (8 * length ys) (last.end - d.end) (drop d.end rs₁) (omega (arith, k.end))))
        (gathered-waits at w g m' d k (8 * length ys) refl) in
        let ends : q + length (export_names (exports_for at w ys)) ≡ last.last = rw k.are (sym k.last_name) in
        let both-are = wn ys q (part-long ∙ omega (arith, k.end)) waits ends in
        let eb : bytes ≡ flat x = both-are.0 ∙ ap (λ t. flat (export_words q t)) k.are in
        let en : ns₂ ≡ sets ns₁ q (export_names xs) = both-are.1 ∙ ap (λ t. sets ns₁ q (export_names t)) k.are in
        let end : last.end ≡ d.end + length (flat x) = omega (arith, k.end, size, lx) in
        let n : (last.end - d.end) / 12 ≡ length xs = omega (arith, k.end, size) in
        let mid : put_mid d.end (last.end - d.end) rs₁ bytes ≡ sets rs₁ d.end (flat x) =
        ap (λ t. take d.end rs₁ ++ (bytes ++ t)) (Post-is d.end last.end rs₁ l)
        ∙ ap (λ t. take d.end rs₁ ++ (t ++ drop last.end rs₁)) eb
        ∙ ap (λ j. take d.end rs₁ ++ (flat x ++ drop j rs₁)) end
        ∙ sym (sets-eq (flat x) rs₁ d.end (omega (arith, end, k.room, room-inside (length g.records), lr))
        ∙ append_assoc (take d.end rs₁) (flat x) (drop (d.end + length (flat x)) rs₁)) in
        rw (es, mid, n, en, ← named_again m xs) (gathered-written at w g m' d k)

-- named exports gathered by a sort

-- what a test for room says
pub has_room
    : (from count size : ℕ) {free : ℕ} {t : Bool} → free ≡ room_in size → t ≡ leb (from + count) free → t ≡ true → from + count ≤ room_in size
has_room from count size e f z = leb-true (from + count) (room_in size) (ap (leb (from + count)) (sym e) ∙ sym f ∙ z)

module _ (at : ℕ) (w : List ℕ) (base count n : ℕ) (first : Draft) (rs ns items : List ℕ) (ec : count ≡ (run at (field base export_named_symbol_num) w).0)
    (s : Sorted at w (named_from at w base 0 count) n items)
    (li : length items ≡ length (mid_of first.end (first.end + 12 * count - first.end) rs))
    (room : first.end + 12 * count ≤ room_in (length rs)) (few : n ≤ count) where
  abbrev all : List Export
  all = (run at (named_exports base) w).0

  -- the bytes are lent from the record's end on
  abbrev after : List ℕ
  after = put_mid first.end (first.end + 12 * count - first.end) rs items

  size_is : first.end + 12 * count - first.end ≡ 12 * count
  size_is = omega arith

  items_long : length items ≡ 12 * count
  items_long = li ∙ mid_len first.end (first.end + 12 * count) rs (omega (arith, room-inside (length rs))) ∙ size_is

  all_is : named_from at w base 0 count ≡ all
  all_is = from_start at w base count ∙ all_named at w base ec

  sorted_all : Sorted at w all n items
  sorted_all = subst (λ xs. Sorted at w xs n items) all_is s

  after_is : after ≡ sets rs first.end items
  after_is =
      let e : first.end + 12 * count ≡ first.end + length items = omega (arith, items_long) in
      ap (λ t. take first.end rs ++ (items ++ t)) (Post-is first.end (first.end + 12 * count) rs (omega arith))
      ∙ ap (λ j. take first.end rs ++ (items ++ drop j rs)) e
      ∙ sym (sets-eq items rs first.end (omega (arith, items_long, room-inside (length rs)))
      ∙ append_assoc (take first.end rs) items (drop (first.end + length items) rs))

  pub after_long : length after ≡ length rs
  after_long = same_len_mid first.end (first.end + 12 * count - first.end) rs items li

  pub sorted_ends
      : (rs' ns' : List ℕ) (bytes : ℕ) → length rs' ≡ length after → first.last + bytes ≤ room_in (length ns')
      → EndsWithin (Some (record { start = first.start; end = first.end + 12 * n; names = first.names; last = first.last + bytes })) first.end
      (room_in (length rs'))
  sorted_ends rs' ns' bytes e fits =
      ends_open _ first.end (room_in (length rs')) (omega arith)
      (subst (λ t. first.end + 12 * n ≤ room_in t) (sym (e ∙ after_long)) (omega (arith, room))) (omega (arith, fits, room_word (length ns')))

  -- those that wait, for the sum of their names' lengths
  abbrev waits : List ℕ
  waits = take (first.end + 8 * n - first.end) (drop first.end after)

  waits_is : waits ≡ take (8 * n) items
  unfolding part
  waits_is =
      let k : first.end + 8 * n - first.end ≡ 8 * n = omega arith in
      let z : first.end + 0 ≡ first.end = omega arith in
      ap (λ j. take j (drop first.end after)) k ∙ ap (λ t. take (8 * n) (drop first.end t)) after_is
      ∙ ap (λ j. take (8 * n) (drop j (sets rs first.end items))) (sym z)
      ∙ part_sets rs first.end items 0 (8 * n) (omega (arith, items_long, room-inside (length rs))) (omega (arith, items_long))

  waits_long : length waits ≡ 8 * n
  waits_long = ap length waits_is ∙ length-take-le (8 * n) items (omega (arith, items_long))

  sorted_waits : Sorted at w all (length waits / 8) waits
  sorted_waits =
      let c : n ≡ length waits / 8 = omega (arith, waits_long) in
      subst (λ j. Sorted at w all j waits) c (subst (Sorted at w all n) (sym waits_is) (sorted_taken at w sorted_all))

  pub waits-short : length waits < 2 ^ 32
  waits-short = omega (arith, waits_long, room_word (length rs))

  -- that sum decides, and then the bytes that the sort used besides are cleared

  module _ (bytes : ℕ) (eb : (xs : List Export) → Sorted at w xs (length waits / 8) waits → bytes ≡ length (export_names xs)) where
    bytes_are : bytes ≡ length (export_names all)
    bytes_are = eb all sorted_waits

    module _ (g : Ground) (m : Module) (p : Bare m) (h : Writing g m (Some first) rs ns) where
      abbrev words : List ℕ
      words = flat (module_words first.names m)

      the_record : Held g.records g.names first m rs ns
      the_record = held g m first rs ns h

      words_end : first.start + length words ≡ first.end
      words_end = omega (arith, length-flat (module_words first.names m), the_record.end)

      records_long : length rs ≡ length g.records
      records_long = ap length the_record.words ∙ length-sets g.records first.start words

      names_long : length ns ≡ length g.names
      names_long = ap length the_record.bytes ∙ length-sets g.names first.names (module_names m)

      -- what follows the record's words
      laid-after : (x : List ℕ) → sets rs first.end x ≡ sets g.records first.start (words ++ x)
      laid-after x =
          ap (λ t. sets t first.end x) the_record.words
          ∙ ap (λ j. sets (sets g.records first.start words) j x) (sym words_end)
          ∙ sym (sets_append g.records first.start words x)

      pub sorted_full
          : {rs' ns' : List ℕ} {t : Bool} {free : ℕ} → free ≡ room_in (length ns) → t ≡ leb (first.last + bytes) free → t ≡ false
          → ◌≡◌ {A = List ℕ × List ℕ} (rs', ns')
          (given_up after ns (record { start = first.start; end = first.end + 12 * count; names = first.names; last = first.last }))
          → GatheredAll at w g m first all None rs' ns'
      unfolding GatheredAll
      sorted_full {rs'} {ns'} {t} {free} ef et z e =
          let no : leb (first.last + length (export_names all)) (room_in (length g.names)) ≡ false =
          ap (λ k. leb (first.last + k) (room_in (length g.names))) (sym bytes_are)
          ∙ ap (λ k. leb (first.last + bytes) (room_in k)) (sym names_long) ∙ ap (leb (first.last + bytes)) (sym ef) ∙ sym et ∙ z in
          let gone : ◌≡◌ {A = List ℕ × List ℕ} (rs', ns') (g.records, g.names) =
          e
          ∙ given_up_lem g.records g.names g.missing g.register g.right g.holds g.bytes _ (words ++ items) (module_names m) after ns
          (starts g m first rs ns h) (begins g m first rs ns h) (after_is ∙ laid-after items) the_record.bytes
          (omega (arith, length-append words items, words_end, items_long)) (omega (arith, the_record.last))
          (omega (arith, room, records_long, room-inside (length rs))) (omega (arith, the_record.name-room, room-inside (length g.names))) in (
            ap (λ (x : List ℕ × List ℕ). x.0) gone,
            ap (λ (x : List ℕ × List ℕ). x.1) gone,
            roomy-named g m first rs ns h p.0 p.1 all
                ∙ rw (no, and_no (leb (first.end + 12 * length all) (room_in (length g.records)))) (and_no (ltb (length g.register.modules) 64)),
          )

      -- the words of those that wait, and what the sort used besides
      sorted_words : List ℕ
      sorted_words = flat (waiting_words at w sorted_all.waiting)

      items_are : items ≡ sorted_words ++ drop (8 * n) items
      unfolding part sorted_words
      items_are =
          let k : 8 * length sorted_all.waiting ≡ 8 * n = ap (λ t. 8 * t) sorted_all.counted in
          sym (take-append-drop (8 * n) items) ∙ ap (λ t. t ++ drop (8 * n) items) (ap (λ j. take j items) (sym k) ∙ sorted_all.laid.are)

      sorted_long : length sorted_words ≡ 8 * n
      unfolding sorted_words
      sorted_long = length-bytes at w sorted_all.waiting ∙ ap (λ t. 8 * t) sorted_all.counted

      cleared_is : sets after (first.end + 8 * n) (replicate (first.end + 12 * count - (first.end + 8 * n)) 0) ≡ sets rs first.end sorted_words
      cleared_is =
          let k = first.end + 12 * count - (first.end + 8 * n) in
          let rest = drop (8 * n) items in
          let front = words ++ sorted_words in
          let lf : length front ≡ length words + 8 * n = length-append words sorted_words ∙ ap (λ t. length words + t) sorted_long in
          let o : first.end + 8 * n ≡ first.start + length front = omega (arith, lf, words_end) in
          let a : after ≡ sets g.records first.start (front ++ rest) =
          after_is ∙ laid-after items ∙ ap (λ t. sets g.records first.start (words ++ t)) items_are
          ∙ ap (sets g.records first.start) (sym (append_assoc words sorted_words rest)) in
          ap (λ t. sets t (first.end + 8 * n) (replicate k 0)) a
          ∙ ap (λ j. sets (sets g.records first.start (front ++ rest)) j (replicate k 0)) o
          ∙ cut_short g.records g.names g.missing g.register g.right g.holds g.bytes front rest first.start k
          (starts g m first rs ns h) (omega (arith, length-drop (8 * n) items, items_long))
          (omega (arith, lf, words_end, room, records_long, room-inside (length rs)))
          ∙ sym (laid-after sorted_words)

      pub sorted_open
          : {rs' : List ℕ} → first.last + bytes ≤ room_in (length ns)
          → rs' ≡ sets after (first.end + 8 * n) (replicate (first.end + 12 * count - (first.end + 8 * n)) 0)
          → GatheredAll at w g m first all
          (Some (record { start = first.start; end = first.end + 12 * n; names = first.names; last = first.last + bytes })) rs' ns
      unfolding GatheredAll sorted_words
      sorted_open fits e =
          record {
            alone = rs;
            written = h;
            none = p.0;
            no_indexed = p.1;
            waiting = sorted_all.waiting;
            are = sorted_all.are;
            ascends = sorted_all.ascends;
            small = sorted_all.laid.small;
            bytes = e ∙ cleared_is;
            start = refl;
            names = refl;
            end = ap (λ t. first.end + 12 * t) (sym sorted_all.counted);
            last_name = ap (λ t. first.last + t) bytes_are;
            room = subst (λ t. first.end + 12 * n ≤ room_in t) records_long (omega (arith, room));
            name-room = subst (λ t. first.last + bytes ≤ room_in t) names_long fits;
          }
