-- Bytes that are 0, a part after another, and a walk over the parts.
use Rattle.std.specs.Prelude.{Option, Some, None, option_and_then}
use Prim.Native.Nat.{ℕ, zero, suc, ◌+◌, ◌-◌, ◌*◌, ◌^◌, ◌≤◌, ◌<◌}
use mathlib.Core.Path.{◌≡◌, refl}
use mathlib.Core.List.{List, [], ◌∷◌, ◌++◌}
use mathlib.Core.Bool.{Bool, true, false, ◌&&◌}
use native.Mathlib.Omega.{arith}
use native.Mathlib.Nat.{mul-le-mul}
use native.Mathlib.Numerals.{add-one}
use lib.ListN.{get_or}
use lib.Dec.{leb}
use borrow.Author.Tests.{eq-eqb, ne_eqb, leb-true}
use Rattle.window.specs.Tests.{both}
use Rattle.window.specs.Mirror.{word}
use Rattle.layout.specs.Header.{module_name_offset}
use Rattle.layout.specs.Tables.{table_entry_sizes}
use Rattle.layout.specs.declared.format.Segment.{Segment}
use Rattle.history.specs.Image.{file_segment}
use Rattle.writer_spec.specs.Description.{Block, up4, zeros, in_file, block_after, packed_from, segment_blocks, pair_block, pair_blocks}

module _ (F : ℕ → ℕ) where
  -- a part that does not start at the next multiple of 4, one behind bytes that are not 0, and one in its place
  pub block_misplaced : (pos offset size : ℕ) → (offset ≡ up4 pos → ⊥) → None ≡ block_after F pos offset size
  unfolding block_after
  block_misplaced pos offset size off = rw (ne_eqb offset (up4 pos) off)

  pub block-behind-bytes
      : (pos offset size : ℕ) {answer : Bool} → offset ≡ up4 pos → answer ≡ zeros F pos (offset - pos) → answer ≡ false
      → None ≡ block_after F pos offset size
  unfolding block_after
  block-behind-bytes pos offset size at said failed = rw (eq-eqb offset (up4 pos) at, ← at, ← said, failed)

  pub block-placed
      : (pos offset size : ℕ) {answer : Bool} → offset ≡ up4 pos → answer ≡ zeros F pos (offset - pos) → answer ≡ true
      → Some (offset + size) ≡ block_after F pos offset size
  unfolding block_after
  block-placed pos offset size at said held = rw (eq-eqb offset (up4 pos) at, ← at, ← said, held)

  -- one part of a walk
  packed-at
      : (pos : ℕ) (b : Block) (bs : List Block) {r : Option ℕ} (next : ℕ) → r ≡ block_after F pos b.offset b.size → r ≡ Some next
      → packed_from F pos (b ∷ bs) ≡ packed_from F next bs
  unfolding packed_from
  packed-at pos b bs next said there = rw (← said, there)

  packed_nowhere
      : (pos : ℕ) (b : Block) (bs : List Block) {r : Option ℕ} → r ≡ block_after F pos b.offset b.size → r ≡ None
      → packed_from F pos (b ∷ bs) ≡ None
  unfolding packed_from
  packed_nowhere pos b bs said none = rw (← said, none)

  segments_in
      : (n i : ℕ) → in_file (file_segment F i).kind ≡ true
      → segment_blocks F (suc n) i ≡ record { offset = (file_segment F i).offset; size = (file_segment F i).size } ∷ segment_blocks F n (suc i)
  unfolding segment_blocks
  segments_in n i h = rw h

  segments_out : (n i : ℕ) → in_file (file_segment F i).kind ≡ false → segment_blocks F (suc n) i ≡ segment_blocks F n (suc i)
  unfolding segment_blocks
  segments_out n i h = rw h

  -- what is left of the walk over the segments, after i of them
  abbrev pub segments_left : (all i pos : ℕ) → Option ℕ
  segments_left all i pos = packed_from F pos (segment_blocks F (all - i) i)

  pub segment-left_out
      : (all i pos : ℕ) {s : Segment} {inside : Bool} → i < all → s ≡ file_segment F i → inside ≡ in_file s.kind → inside ≡ false
      → segments_left all (i + 1) pos ≡ segments_left all i pos
  segment-left_out all i pos {s} l seg said out =
      let e : all - i ≡ suc (all - (i + 1)) = omega arith in
      let h : in_file (file_segment F i).kind ≡ false = rw (← seg, ← said, out) in
      rw (e, segments_out (all - (i + 1)) i h, add-one)

  pub segment-passed
      : (all i pos next : ℕ) {s : Segment} {inside : Bool} {r : Option ℕ} → i < all → s ≡ file_segment F i → inside ≡ in_file s.kind
      → inside ≡ true → r ≡ block_after F pos s.offset s.size → r ≡ Some next
      → segments_left all (i + 1) next ≡ segments_left all i pos
  segment-passed all i pos next {s} l seg said held placed there =
      let e : all - i ≡ suc (all - (i + 1)) = omega arith in
      let h : in_file (file_segment F i).kind ≡ true = rw (← seg, ← said, held) in
      let p = rw seg at placed in
      rw (e, segments_in (all - (i + 1)) i h, packed-at pos _ (segment_blocks F (all - (i + 1)) (suc i)) next p there, add-one)

  pub segment-refused
      : (all i pos : ℕ) {s : Segment} {inside : Bool} {r : Option ℕ} → i < all → s ≡ file_segment F i → inside ≡ in_file s.kind
      → inside ≡ true → r ≡ block_after F pos s.offset s.size → r ≡ None
      → None ≡ segments_left all i pos
  segment-refused all i pos {s} l seg said held placed none =
      let e : all - i ≡ suc (all - (i + 1)) = omega arith in
      let h : in_file (file_segment F i).kind ≡ true = rw (← seg, ← said, held) in
      let p = rw seg at placed in
      rw (e, segments_in (all - (i + 1)) i h, packed_nowhere pos _ (segment_blocks F (all - (i + 1)) (suc i)) p none)

  pub segments_end : (all i pos : ℕ) → all ≤ i → Some pos ≡ segments_left all i pos
  unfolding packed_from segment_blocks
  segments_end all i pos l = let e : all - i ≡ 0 = omega arith in rw e

  -- what is left of the walk over the header's pairs of offset and count, after k of them
  abbrev pub pairs_left : (all k pos : ℕ) → Option ℕ
  pairs_left all k pos = packed_from F pos (pair_blocks F (all - k) k)

  pub pair-passed
      : (all k pos next : ℕ) {offset number width : ℕ} {r : Option ℕ} → k < all → number ≡ word F (module_name_offset + 8 * k + 4)
      → width ≡ get_or table_entry_sizes k 0 → offset ≡ word F (module_name_offset + 8 * k) → r ≡ block_after F pos offset (number * width) → r ≡ Some next
      → pairs_left all (k + 1) next ≡ pairs_left all k pos
  unfolding pair_block pair_blocks
  pair-passed all k pos next l n w o placed there =
      let e : all - k ≡ suc (all - (k + 1)) = omega arith in
      let f : module_name_offset + 8 * k + 4 ≡ module_name_offset + (8 * k + 4) = omega arith in
      let p = rw (o, n, w, f) at placed in
      rw (e, packed-at pos (pair_block F k) (pair_blocks F (all - (k + 1)) (suc k)) next p there, add-one)

  pub pair-refused
      : (all k pos : ℕ) {offset number width : ℕ} {r : Option ℕ} → k < all → number ≡ word F (module_name_offset + 8 * k + 4)
      → width ≡ get_or table_entry_sizes k 0 → offset ≡ word F (module_name_offset + 8 * k) → r ≡ block_after F pos offset (number * width) → r ≡ None
      → None ≡ pairs_left all k pos
  unfolding pair_block pair_blocks
  pair-refused all k pos l n w o placed none =
      let e : all - k ≡ suc (all - (k + 1)) = omega arith in
      let f : module_name_offset + 8 * k + 4 ≡ module_name_offset + (8 * k + 4) = omega arith in
      let p = rw (o, n, w, f) at placed in
      rw (e, packed_nowhere pos (pair_block F k) (pair_blocks F (all - (k + 1)) (suc k)) p none)

  pub pairs_end : (all k pos : ℕ) → all ≤ k → Some pos ≡ pairs_left all k pos
  unfolding packed_from pair_blocks
  pairs_end all k pos l = let e : all - k ≡ 0 = omega arith in rw e

  -- two lists of parts, one after the other
  pub packed_append
      : (pos : ℕ) (bs cs : List Block) → packed_from F pos (bs ++ cs) ≡ option_and_then (λ next. packed_from F next cs) (packed_from F pos bs)
  unfolding packed_from
  packed_append pos [] cs = refl
  packed_append pos (b ∷ bs) cs = go (block_after F pos b.offset b.size) (λ next. packed_append next bs cs)
    where
      go
          : (r : Option ℕ) → ((next : ℕ) → packed_from F next (bs ++ cs) ≡ option_and_then (λ p. packed_from F p cs) (packed_from F next bs))
          → option_and_then (λ next. packed_from F next (bs ++ cs)) r ≡ option_and_then (λ p. packed_from F p cs) (option_and_then (λ next. packed_from F next bs) r)
      go (Some next) rest = rest next
      go None rest = refl

-- no table has entries above 2^16 bytes
all_small : List ℕ → Bool
all_small [] = true
all_small (x ∷ xs) = leb x (2 ^ 16) && all_small xs

small_at : (sizes : List ℕ) → all_small sizes ≡ true → (k : ℕ) → get_or sizes k 0 ≤ 2 ^ 16
unfolding all_small
small_at [] h k = omega arith
small_at (x ∷ xs) h zero = leb-true x (2 ^ 16) (both (leb x (2 ^ 16)) (all_small xs) h).0
small_at (x ∷ xs) h (suc k) = small_at xs (both (leb x (2 ^ 16)) (all_small xs) h).1 k

sizes_small : all_small table_entry_sizes ≡ true
unfolding all_small table_entry_sizes
sizes_small = refl

pub table-size-fits : (k : ℕ) {number width : ℕ} → number < 2 ^ 32 → width ≡ get_or table_entry_sizes k 0 → number * width < 2 ^ 63
table-size-fits k {number} {width} l said =
    let w : width ≤ 2 ^ 16 = rw said (small_at table_entry_sizes sizes_small k) in
    let n : number ≤ 2 ^ 32 = omega arith in
    let p = mul-le-mul n w in
    omega arith
