-- What the loops over a module's tables gather, entry by entry, and so what `read_module` gives.
use Rattle.std.specs.Prelude.{if◌then◌else◌, ◌≡◌, ℕ, zero, suc, ◌+◌, ◌-◌, ◌<◌, ◌≤◌, Bool, List, [], ◌∷◌, ◌++◌, length, take, nat_lt, Option, Some, None}
use Rattle.std.proofs.Math.Path.{refl, ap}
use Rattle.std.proofs.Common.{sym, ◌∙◌, take_all, lt-ltb, le-ltb}
use native.Mathlib.Omega.{arith}
use Rattle.std.proofs.Math.Decide.{dec_lt}
use Rattle.std.proofs.Math.ListN.{length-append}
use Rattle.std.proofs.lemmas.List.{take-append-le}
use Rattle.window.specs.Memory.{◌⊕◌, word_at}
use Rattle.window.specs.Access.{Prog, ret, ◌>>=◌, run, run_bind, Reads, reads_same}
use Rattle.window.specs.Loop.{loop, loop_none, loop-more}
use Rattle.window.specs.Name.{name_at, name_at_reads, name_none}
use Rattle.window.specs.Outside.{AllOutside, stride_of, first-zero, part-zero, passed-outside, stride_goes}
use Rattle.layout.specs.Header.{export_named_symbol_table_offset, export_named_symbol_num, export_named_symbol_entry_size, export_indexed_symbol_table_offset, export_indexed_symbol_num, export_indexed_symbol_entry_size, segment_num, module_name_offset}
use Rattle.layout.specs.Segments.{field, field-word, field_reads, entry_at, segment, segment_reads, tag_to_address, tag_to_address_reads}
use Rattle.register.specs.Module.{Export, Module}
use Rattle.register.specs.Order.{put_twice}
use Rattle.linker_spec.specs.Relocation.{address_or0}
use Rattle.linker_spec.specs.Exports.{put_usable, named_export, named_exports, indexed_export, indexed_exports, offset_or0, read_segments, read_module, named_exports_reads, indexed_exports_reads, read_segments_reads}

-- a program that only reads, and then another
bind_reads
    : {A B : Type 0} (at : ℕ) (m : Prog A) (f : A → Prog B) (w : List ℕ) → Reads m → run at (m >>= f) w ≡ run at (f (run at m w).0) w
bind_reads at m f w h = run_bind at m f w ∙ ap (λ v. run at (f (run at m w).0) v) (reads_same at m w h)

-- a loop whose turn j makes s (j + 1) of s j
loop_gives
    : {A : Type 0} (at : ℕ) (body : ℕ → A → Prog A) (w : List ℕ) (s : ℕ → A) → ((j : ℕ) → run at (body j (s j)) w ≡ (s (suc j), w))
    → (i n : ℕ) → run at (loop body i n (s i)) w ≡ (s (i + n), w)
loop_gives at body w s turn i zero = let z : i + 0 ≡ i = omega arith in rw z (loop_none at body i (s i) w)
loop_gives {A = A} at body w s turn i (suc n) =
    let z : i + suc n ≡ suc i + n = omega arith in
    rw z (loop-more at body i n (s i) w ∙ ap (λ (t : A × List ℕ). run at (loop body (suc i) n t.0) t.1) (turn i)
    ∙ loop_gives at body w s turn (suc i) n)

put_again : (xs : List Export) (name : List ℕ) (x : Option ℕ) → put_usable (put_usable xs name x) name x ≡ put_usable xs name x
unfolding put_usable
put_again xs name (Some a) = put_twice xs name a
put_again xs name None = refl

module _ (at : ℕ) (w : List ℕ) (base : ℕ) where
  abbrev pub header_word : ℕ → ℕ
  header_word x = word_at at w (base ⊕ x)

  -- the addresses of the first i segments
  abbrev pub segment_of : ℕ → ℕ
  segment_of i = offset_or0 (run at (segment base i) w).0

  unfoldable pub segments_to : ℕ → List ℕ
  segments_to zero = []
  segments_to (suc i) = segments_to i ++ (segment_of i ∷ [])

  -- the exports of the first i entries
  abbrev pub named_entry : ℕ → ℕ
  named_entry i = entry_at (header_word export_named_symbol_table_offset) i export_named_symbol_entry_size

  abbrev pub name_of : ℕ → List ℕ
  name_of i = (run at (name_at (word_at at w (named_entry i))) w).0

  abbrev pub address_of : ℕ → Option ℕ
  address_of i = (run at (tag_to_address base (word_at at w (named_entry i ⊕ 4))) w).0

  unfoldable pub named_to : ℕ → List Export
  named_to zero = []
  named_to (suc i) = put_usable (named_to i) (name_of i) (address_of i)

  abbrev pub indexed_entry : ℕ → ℕ
  indexed_entry i = entry_at (header_word export_indexed_symbol_table_offset) i export_indexed_symbol_entry_size

  abbrev pub indexed_of : ℕ → ℕ
  indexed_of i = address_or0 (run at (tag_to_address base (word_at at w (indexed_entry i))) w).0

  unfoldable pub indexed_to : ℕ → List ℕ
  indexed_to zero = []
  indexed_to (suc i) = indexed_to i ++ (indexed_of i ∷ [])

  -- the loops give them

  named-turn : (j : ℕ) → run at (named_export base (named_entry j) (named_to j)) w ≡ (named_to (suc j), w)
  unfolding named_export named_to run ◌>>=◌
  named-turn j =
      bind_reads at (name_at (word_at at w (named_entry j))) _ w (name_at_reads (word_at at w (named_entry j)))
      ∙ bind_reads at (tag_to_address base (word_at at w (named_entry j ⊕ 4))) _ w (tag_to_address_reads base (word_at at w (named_entry j ⊕ 4)))

  pub named_gives : run at (named_exports base) w ≡ (named_to (header_word export_named_symbol_num), w)
  unfolding named_exports named_to field run ◌>>=◌
  named_gives =
      let n = header_word export_named_symbol_num in
      let z : 0 + n ≡ n = omega arith in
      loop_gives at (λ i xs. named_export base (named_entry i) xs) w named_to named-turn 0 n ∙ ap (λ k. (named_to k, w)) z

  -- each entry wholly outside puts the empty name with the address of tag 0, so that of several only the first counts

  outside-turn
      : (j : ℕ) → AllOutside at (length w) (named_entry j) export_named_symbol_entry_size
      → named_to (suc j) ≡ put_usable (named_to j) [] (run at (tag_to_address base 0) w).0
  unfolding named_to
  outside-turn j out =
      ap (λ p. put_usable (named_to j) (run at (name_at p) w).0 (address_of j)) (first-zero at w (named_entry j) export_named_symbol_entry_size out (omega arith))
      ∙ ap (λ name. put_usable (named_to j) name (address_of j)) (name_none at 0 w refl)
      ∙ ap (λ tag. put_usable (named_to j) [] (run at (tag_to_address base tag) w).0)
      (part-zero at w (named_entry j) export_named_symbol_entry_size out 4 (omega arith))

  outside-same
      : (i m : ℕ) → ((j : ℕ) → i ≤ j → j ≤ i + m → AllOutside at (length w) (named_entry j) export_named_symbol_entry_size)
      → named_to (suc i) ≡ named_to (suc (i + m))
  outside-same i zero out = let z : i + 0 ≡ i = omega arith in rw z
  outside-same i (suc m) out =
      let z : i + suc m ≡ suc (i + m) = omega arith in
      let x = (run at (tag_to_address base 0) w).0 in
      let t = outside-turn (i + m) (out (i + m) (omega arith) (omega arith)) in
      outside-same i m (λ j l h. out j l (omega arith))
      ∙ t
      ∙ sym (put_again (named_to (i + m)) [] x)
      ∙ ap (λ xs. put_usable xs [] x) (sym t)
      ∙ sym (outside-turn (suc (i + m)) (out (suc (i + m)) (omega arith) (omega arith)))
      ∙ ap (λ k. named_to (suc k)) (sym z)

  pub named_past
      : (i left : ℕ) {entry k : ℕ} → entry ≡ named_entry i → k ≡ stride_of at (length w) entry export_named_symbol_entry_size left → 0 < left
      → named_to (i + 1) ≡ named_to (i + k)
  named_past i left {entry} {k} e d l = elim (dec_lt 1 k) [
    | yes many ↦ let z : suc i ≡ i + 1 = omega arith in
        let y : suc (i + (k - 1)) ≡ i + k = omega arith in
        ap named_to (sym z)
        ∙ outside-same i (k - 1)
        (λ j h g. passed-outside at (length w) (header_word export_named_symbol_table_offset) export_named_symbol_entry_size i left j e (omega (arith, d)) h
        (omega (arith, d)))
        ∙ ap named_to y
    | no one ↦ let z : 1 ≡ k = omega (arith, stride_goes at (length w) entry export_named_symbol_entry_size left d l) in ap (λ k. named_to (i + k)) z
  ]

  indexed_turn : (j : ℕ) → run at (indexed_export base (indexed_entry j) (indexed_to j)) w ≡ (indexed_to (suc j), w)
  unfolding indexed_export indexed_to run ◌>>=◌
  indexed_turn j =
      bind_reads at (tag_to_address base (word_at at w (indexed_entry j))) _ w (tag_to_address_reads base (word_at at w (indexed_entry j)))

  pub indexed_gives : run at (indexed_exports base) w ≡ (indexed_to (header_word export_indexed_symbol_num), w)
  unfolding indexed_exports indexed_to field run ◌>>=◌
  indexed_gives =
      let n = header_word export_indexed_symbol_num in
      let z : 0 + n ≡ n = omega arith in
      loop_gives at (λ i xs. indexed_export base (indexed_entry i) xs) w indexed_to indexed_turn 0 n ∙ ap (λ k. (indexed_to k, w)) z

  abbrev one : ℕ → List ℕ → Prog (List ℕ)
  one i xs = segment base i >>= λ s. ret (xs ++ (offset_or0 s ∷ []))

  segment-turn : (j : ℕ) → run at (one j (segments_to j)) w ≡ (segments_to (suc j), w)
  unfolding segments_to run
  segment-turn j = bind_reads at (segment base j) (λ s. ret (segments_to j ++ (offset_or0 s ∷ []))) w (segment_reads base j)

  segments-loop : (n : ℕ) → run at (loop one 0 n []) w ≡ (segments_to n, w)
  unfolding segments_to
  segments-loop n = let z : 0 + n ≡ n = omega arith in loop_gives at one w segments_to segment-turn 0 n ∙ ap (λ k. (segments_to k, w)) z

  pub length-segments : (i : ℕ) → length (segments_to i) ≡ i
  unfolding segments_to
  length-segments zero = refl
  length-segments (suc i) = length-append (segments_to i) (segment_of i ∷ []) ∙ omega (arith, length-segments i)

  -- the first k of more
  first-segments : (k j : ℕ) → take k (segments_to (j + k)) ≡ segments_to k
  unfolding segments_to
  first-segments k zero = let z : 0 + k ≡ k = omega arith in rw z (take_all k (segments_to k) (omega (arith, length-segments k)))
  first-segments k (suc j) =
      let z : suc j + k ≡ suc (j + k) = omega arith in
      rw z (take-append-le k (segments_to (j + k)) (segment_of (j + k) ∷ []) (omega (arith, length-segments (j + k))) ∙ first-segments k j)

-- how many segments are kept
unfoldable pub at_most16 : ℕ → ℕ
at_most16 n = if nat_lt 16 n then 16 else n

module _ (at : ℕ) (w : List ℕ) (base : ℕ) where
  take_16 : (n : ℕ) → take 16 (segments_to at w base n) ≡ segments_to at w base (at_most16 n)
  unfolding at_most16
  take_16 n = elim (dec_lt 16 n) [
    | yes l ↦ let e : n ≡ n - 16 + 16 = omega arith in
        rw (lt-ltb 16 n l) (ap (λ k. take 16 (segments_to at w base k)) e ∙ first-segments at w base 16 (n - 16))
    | no l ↦ rw (le-ltb 16 n (omega arith)) (take_all 16 (segments_to at w base n) (omega (arith, length-segments at w base n)))
  ]

  pub segments_give : run at (read_segments base) w ≡ (segments_to at w base (at_most16 (header_word at w base segment_num)), w)
  unfolding read_segments field run ◌>>=◌
  segments_give =
      let n = header_word at w base segment_num in
      run_bind at (loop (one at w base) 0 n []) (λ xs. ret (take 16 xs)) w
      ∙ ap (λ (t : List ℕ × List ℕ). (take 16 t.0, t.1)) (segments-loop at w base n)
      ∙ ap (λ xs. (xs, w)) (take_16 n)

  -- the module that the image has
  abbrev pub own_name : List ℕ
  own_name = (run at (name_at (header_word at w base module_name_offset)) w).0

  abbrev pub module_with : ℕ → Bool → List ℕ → List Export → List ℕ → Module
  module_with size auto segments named indexed =
      record { base = base; size = size; auto = auto; name = own_name; segments = segments; named = named; indexed = indexed }

  pub module_is
      : (size : ℕ) (auto : Bool)
      → (run at (read_module base size auto) w).0
      ≡ module_with size auto (run at (read_segments base) w).0 (run at (named_exports base) w).0 (run at (indexed_exports base) w).0
  unfolding read_module run
  module_is size auto =
      ap (λ (t : Module × List ℕ). t.0)
      (bind_reads at (named_exports base) _ w (named_exports_reads base)
      ∙ bind_reads at (indexed_exports base) _ w (indexed_exports_reads base)
      ∙ bind_reads at (read_segments base) _ w (read_segments_reads base)
      ∙ bind_reads at (field base module_name_offset) _ w (field_reads base module_name_offset)
      ∙ bind_reads at (name_at (run at (field base module_name_offset) w).0) _ w (name_at_reads (run at (field base module_name_offset) w).0))
      ∙ ap
      (λ p. record {
        base = base;
        size = size;
        auto = auto;
        name = (run at (name_at p) w).0;
        segments = (run at (read_segments base) w).0;
        named = (run at (named_exports base) w).0;
        indexed = (run at (indexed_exports base) w).0;
      })
      (field-word at base module_name_offset w)
