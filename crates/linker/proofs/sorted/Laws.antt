-- One entry's export sorted, and the lengths of names summed.
use Rattle.std.proofs.Common.{◌≡◌, ℕ, suc, ◌+◌, ◌-◌, ◌*◌, ◌/◌, ◌^◌, ◌<◌, ◌≤◌, leb, List, [], ◌∷◌, ◌++◌, length, get_or, take, drop, sym, refl, ap, ◌∙◌, subst, append-nil, add-one, arith, length-append, length-drop, drop_of_length-le, length-take-le, drop-cons, drop_at, leb-true, Option, Some, None}
use lib.Seq.{sets}
use borrow.Rule.Slice.PartMut.{mid_of, post_of, put_mid, same_len_mid, take_put}
use Rattle.window.specs.Memory.{◌⊕◌, word_at}
use Rattle.window.specs.Access.{run}
use Rattle.window.specs.Name.{laid_over, is_name, no_zero, name_at-is_name, name_is, name_taken}
use Rattle.window.specs.Tests.{both}
use Rattle.layout.specs.Header.{export_named_symbol_table_offset, export_named_symbol_entry_size}
use Rattle.layout.specs.Segments.{entry_at, tag_to_address}
use Rattle.register.specs.Words.{part, flat, words_in}
use Rattle.register.specs.Module.{Export, ascending}
use Rattle.register.specs.Encode.{export_names}
use Rattle.register.specs.Change.{put_named}
use Rattle.register.specs.Order.{an_export, name_in}
use Rattle.linker_spec.specs.Exports.{put_usable}
use Rattle.linker.specs.Record.Read.{header_word, name_of}
use Rattle.linker.specs.Exports.Waiting.{name_for, exports_for, length_exports}
use Rattle.linker.specs.Exports.Puts.{named_from, from_none, from_one}
use Rattle.linker.specs.Exports.Sorted.{Laid, Sorted, laid_none, Laid-one, laid-place}
use Rattle.linker.proofs.exports.Laws.{the_entry, the_address}

-- none at all
pub sorted_none : (at : ℕ) (w bytes : List ℕ) → Sorted at w [] 0 bytes
unfolding exports_for ascending
sorted_none at w bytes =
    record { waiting = []; are = refl; counted = refl; laid = laid_none at w 0 bytes (omega arith); ascends = refl }

pub none_from : (at : ℕ) (w : List ℕ) (base from n : ℕ) (bytes : List ℕ) → n ≡ 0 → Sorted at w (named_from at w base from n) 0 bytes
none_from at w base from n bytes e =
    subst (λ xs. Sorted at w xs 0 bytes) (sym (from_none at w base from) ∙ ap (named_from at w base from) (sym e)) (sorted_none at w bytes)

-- the export of entry i

module _ (at : ℕ) (w : List ℕ) (base i table entry p₄ tag : ℕ) (x : Option ℕ) (ee : entry ≡ entry_at table i export_named_symbol_entry_size)
    (e₄ : p₄ ≡ entry ⊕ 4) (et : tag ≡ word_at at w p₄) (ex : x ≡ (run at (tag_to_address base tag) w).0)
    (h : table ≡ header_word at w base export_named_symbol_table_offset) where
  one_is : put_usable [] (name_of at w base i) x ≡ named_from at w base i 1
  one_is = ap (put_usable [] (name_of at w base i)) (the_address at w base i table entry p₄ tag x ee e₄ et ex h) ∙ sym (from_one at w base i)

  pub one-passed : (bytes : List ℕ) → x ≡ None → Sorted at w (named_from at w base i 1) 0 bytes
  unfolding put_usable
  one-passed bytes z = subst (λ xs. Sorted at w xs 0 bytes) (ap (put_usable [] (name_of at w base i)) (sym z) ∙ one_is) (sorted_none at w bytes)

  pub one_added
      : (a place : ℕ) (bytes : List ℕ) {bytes' : List ℕ} → x ≡ Some a → place ≡ word_at at w entry → place < 2 ^ 32 → a < 2 ^ 32 → 8 ≤ length bytes
      → bytes' ≡ sets bytes (8 * 0) (flat (place ∷ a ∷ [])) → Sorted at w (named_from at w base i 1) 1 bytes'
  unfolding put_usable put_named exports_for ascending
  one_added a place bytes {bytes'} z el hp ha l e =
      let en : entry ≡ _ = the_entry at w base i table entry p₄ tag x ee e₄ et ex h in
      let n : name_for at w place ≡ name_of at w base i = ap (name_for at w) (el ∙ ap (word_at at w) en) in
      subst (λ xs. Sorted at w xs 1 bytes') (ap (put_usable [] (name_of at w base i)) (sym z) ∙ one_is)
      (record {
        waiting = record { place = place; address = a } ∷ [];
        are = ap (λ t. record { name = t; address = a } ∷ []) n;
        counted = refl;
        laid = subst (Laid at w 0 (record { place = place; address = a } ∷ [])) (sym e) (Laid-one at w 0 place a bytes hp ha (omega arith));
        ascends = refl;
      })

-- the lengths of the names, k of them summed

pub name-within : (at : ℕ) (w : List ℕ) (place count : ℕ) (old : List ℕ) {buffer : List ℕ} → (count, buffer) ≡ laid_over (name_for at w place) old → count ≤ 512
unfolding is_name
name-within at w place count old e =
    let name = name_for at w place in
    let l = leb-true (length name) 512 (both (leb (length name) 512) (no_zero name) (name_at-is_name at place w)).0 in
    omega (arith, l, name_taken name old e ∙ ap length (name_is name old e))

module _ (at : ℕ) (w waiting : List ℕ) where
  abbrev pub SummedTo : ℕ → ℕ → Type 0
  SummedTo k sum =
      (exports : List Export) → Sorted at w exports (length waiting / 8) waiting
      → sum + length (export_names (drop k exports)) ≡ length (export_names exports)

  counted_is : (exports : List Export) → Sorted at w exports (length waiting / 8) waiting → length exports ≡ length waiting / 8
  counted_is exports h = ap length (sym h.are) ∙ length_exports at w h.waiting ∙ h.counted

  pub sum_starts : SummedTo 0 0
  sum_starts exports h = omega arith

  pub sum-turn
      : (k sum place count : ℕ) (old : List ℕ) {buffer : List ℕ} → k < length waiting / 8 → place ≡ get_or (words_in waiting) (2 * k) 0
      → (count, buffer) ≡ laid_over (name_for at w place) old → SummedTo k sum → SummedTo (k + 1) (sum + count)
  unfolding export_names
  sum-turn k sum place count old l ep ec s exports h =
      let n = counted_is exports h in
      let z : 2 * k ≡ 2 * (0 + k) = omega arith in
      let nk : name_for at w place ≡ name_in exports k =
      laid-place at w 0 k place h.laid (omega (arith, h.counted)) (ep ∙ ap (λ t. get_or (words_in waiting) t 0) z) ∙ ap (λ t. name_in t k) h.are in
      let c : count ≡ length (name_in exports k) =
      name_taken (name_for at w place) old ec ∙ ap length (name_is (name_for at w place) old ec ∙ nk) in
      let d : drop k exports ≡ get_or exports k an_export ∷ drop (suc k) exports = drop-cons exports k an_export (omega (arith, n)) in
      let m : length (export_names (drop k exports)) ≡ length (name_in exports k) + length (export_names (drop (suc k) exports)) =
      ap (λ t. length (export_names t)) d ∙ length-append (name_in exports k) (export_names (drop (suc k) exports)) in
      rw (add-one) (omega (arith, s exports h, m, c))

  pub sum_ends : (k sum : ℕ) → length waiting / 8 ≤ k → SummedTo k sum → (exports : List Export) → Sorted at w exports (length waiting / 8) waiting → sum ≡ length (export_names exports)
  unfolding export_names
  sum_ends k sum l s exports h =
      let n = counted_is exports h in
      let past : length exports ≤ k = omega (arith, n) in
      let z : drop k exports ≡ [] = drop_of_length-le exports past in
      let m : length (export_names (drop k exports)) ≡ 0 = ap (λ t. length (export_names t)) z in
      omega (arith, s exports h, m)

-- the bytes after a run lent to sort another, and back

module _ (at : ℕ) (w : List ℕ) (left : ℕ) (items new : List ℕ) (ln : length new ≡ length (mid_of (8 * left) (length items - 8 * left) items))
    (l : 8 * left ≤ length items) where
  abbrev back : List ℕ
  back = put_mid (8 * left) (length items - 8 * left) items new

  pub back_long : length back ≡ length items
  back_long = same_len_mid (8 * left) (length items - 8 * left) items new ln

  pub left_kept : {exports : List Export} → Sorted at w exports left items → Sorted at w exports left back
  unfolding part
  left_kept h =
      let n : 8 * length h.waiting ≡ 8 * left = ap (λ t. 8 * t) h.counted in
      record {
        waiting = h.waiting;
        are = h.are;
        counted = h.counted;
        laid =
            record {
              are =
                  ap (λ t. take t back) n ∙ take_put (8 * left) (length items - 8 * left) items new l ∙ ap (λ t. take t items) (sym n) ∙ h.laid.are;
              small = h.laid.small;
              inside = omega (arith, h.laid.inside, back_long);
            };
        ascends = h.ascends;
      }

  pub right_back : {exports : List Export} {right : ℕ} → Sorted at w exports right new → Sorted at w exports right (drop (8 * left) back)
  right_back {exports} {right} h =
      let all : length (drop (8 * left) items) ≤ length items - 8 * left = omega (arith, length-drop (8 * left) items) in
      let e : drop (8 * left) back ≡ new =
      drop_at (take (8 * left) items) (new ++ post_of (8 * left) (length items - 8 * left) items) (8 * left) (length-take-le (8 * left) items l)
      ∙ ap (λ t. new ++ t) (drop_of_length-le (drop (8 * left) items) all) ∙ append-nil new in
      subst (Sorted at w exports right) (sym e) h
