-- What "packed" says: the segments with bytes and then the header's 15 pairs are successive intervals of the description.
use Prim.Native.Nat.{ℕ, zero, suc, ◌+◌, ◌≤◌, ◌<◌}
use Rattle.std.specs.Prelude.{if◌then◌else◌, ◌≡◌, refl, Option, Some, None, option_and_then, Bool, ◌&&◌, length, eqb}
use Rattle.std.proofs.Common.{ap}
use mathlib.Core.List.{List, [], ◌∷◌, ◌++◌}
use Rattle.std.proofs.Math.Bool.{true, false}
use native.Mathlib.Omega.{arith}
use Rattle.std.proofs.Math.Decide.{ℕ_discrete}
use borrow.Author.Tests.{eqb-true}
use Rattle.window.specs.Tests.{both}
use Rattle.window.specs.Mirror.{word}
use Rattle.layout.specs.Header.{module_name_offset, header_size, export_tree_num, static_anonymous_symbol_num, static_relocation_table_offset, static_relocation_num}
use Rattle.layout.specs.Tables.{table_entry_sizes}
use Rattle.history.specs.Image.{segments, static_relocations, count, file_segment}
use Rattle.writer_spec.specs.Description.{file_of, Block, in_file, ends_at, header_zeros, segment_blocks, pair_block, pair_blocks, up4, block_after, packed_from, others_empty, packed_to, packed, image_size}
use Rattle.writer_laid.specs.Cases.{contradiction}

-- where one was in order and the rest ends well, that one reached a position and the rest ends well from it
pub then_ends
    : (first : Option ℕ) (rest : ℕ → Option ℕ) (end : ℕ) → ends_at (option_and_then rest first) end ≡ true
    → (next : ℕ) × (first ≡ Some next) × (ends_at (rest next) end ≡ true)
then_ends (Some next) rest end h = (next, refl, h)
then_ends None rest end h = contradiction h

-- what ends well has reached that end
pub ends_reached : (reached : Option ℕ) (end : ℕ) → ends_at reached end ≡ true → reached ≡ Some end
ends_reached (Some position) end h = ap Some (eqb-true position end h)
ends_reached None end h = contradiction h

-- what a guarded position says: the guard holds
pub guarded : (test : Bool) (there next : ℕ) → (if test then Some there else None) ≡ Some next → (test ≡ true) × (there ≡ next)
guarded true there next h = (refl, cc)
guarded false there next h = let z : ◌≡◌ {A = ℕ} 0 1 = cc in absurd (omega arith)

-- blocks one after another from a position on, the last ending at the end
unfoldable Ascending : ℕ → List Block → ℕ → Type 0
Ascending position [] end = position ≡ end
Ascending position (first ∷ rest) end =
    (position ≤ first.offset) × Ascending (first.offset + first.size) rest end

ascending_ends : (position : ℕ) (blocks : List Block) (end : ℕ) → Ascending position blocks end → position ≤ end
unfolding Ascending
ascending_ends position [] end h = omega arith
ascending_ends position (first ∷ rest) end h =
    omega (arith, h.0, ascending_ends (first.offset + first.size) rest end h.1)

-- two lists of blocks meet at some position
ascending-parts
    : (position : ℕ) (former latter : List Block) (end : ℕ) → Ascending position (former ++ latter) end
    → (middle : ℕ) × Ascending position former middle × Ascending middle latter end
unfolding Ascending
ascending-parts position [] latter end h = (position, refl, h)
ascending-parts position (first ∷ rest) latter end h =
    let parts = ascending-parts (first.offset + first.size) rest latter end h.1 in
    (parts.0, (h.0, parts.1), parts.2)

module _ (F : ℕ → ℕ) where
  -- the packed blocks ascend
  packed_ascends : (position : ℕ) (blocks : List Block) (end : ℕ) → ends_at (packed_from F position blocks) end ≡ true → Ascending position blocks end
  unfolding packed_from block_after Ascending
  packed_ascends position [] end h = eqb-true position end h
  packed_ascends position (first ∷ rest) end h =
      let reached = then_ends (block_after F position first.offset first.size) (λ next. packed_from F next rest) end h in
      let guard = guarded _ (first.offset + first.size) reached.0 reached.1 in
      let start = eqb-true first.offset (up4 position) (both (eqb first.offset (up4 position)) _ guard.0).0 in
      (omega arith, rw guard.1 (packed_ascends reached.0 rest end reached.2))

  -- segment i, if it has bytes, comes before those after it
  segment-first
      : (n i position end : ℕ) → Ascending position (segment_blocks F (suc n) i) end
      → (next : ℕ) × (position ≤ next) × Ascending next (segment_blocks F n (suc i)) end
      × (in_file (file_segment F i).kind ≡ true → (position ≤ (file_segment F i).offset) × ((file_segment F i).offset + (file_segment F i).size ≤ next))
  unfolding segment_blocks Ascending
  segment-first n i position end h = go (in_file (file_segment F i).kind) h
    where
      go
          : (bytes : Bool)
          → Ascending position
          (if bytes then (record { offset = (file_segment F i).offset; size = (file_segment F i).size }) ∷ segment_blocks F n (suc i)
          else segment_blocks F n (suc i))
          end
          → (next : ℕ) × (position ≤ next) × Ascending next (segment_blocks F n (suc i)) end
          × (bytes ≡ true → (position ≤ (file_segment F i).offset) × ((file_segment F i).offset + (file_segment F i).size ≤ next))
      go true g = ((file_segment F i).offset + (file_segment F i).size, omega (arith, g.0), g.1, λ e. (g.0, omega arith))
      go false g = (position, omega arith, g, λ e. contradiction e)

  -- a segment with bytes lies among the segments' blocks
  segment-among
      : (n i position end : ℕ) → Ascending position (segment_blocks F n i) end → (j : ℕ) → i ≤ j → j < i + n → in_file (file_segment F j).kind ≡ true
      → (position ≤ (file_segment F j).offset) × ((file_segment F j).offset + (file_segment F j).size ≤ end)
  segment-among zero i position end h j l m bytes = absurd (omega arith)
  segment-among (suc n) i position end h j l m bytes =
      let first = segment-first n i position end h in
      elim (ℕ_discrete j i) [
        | yes same ↦
            let inside = first.3 (rw same at bytes) in
            rw same (inside.0, omega (arith, inside.1, ascending_ends first.0 (segment_blocks F n (suc i)) end first.2))
        | no other ↦ let inside = segment-among n (suc i) first.0 end first.2 j (omega arith) (omega arith) bytes in
            (omega (arith, first.1, inside.0), inside.1)
      ]

  -- a pair lies among the pairs' blocks, and before those after it
  pair-among
      : (n i position end : ℕ) → Ascending position (pair_blocks F n i) end → (k : ℕ) → i ≤ k → k < i + n
      → (position ≤ (pair_block F k).offset) × ((pair_block F k).offset + (pair_block F k).size ≤ end)
  unfolding pair_blocks Ascending
  pair-among zero i position end h k l m = absurd (omega arith)
  pair-among (suc n) i position end h k l m =
      elim (ℕ_discrete k i) [
        | yes same ↦ rw same (h.0, ascending_ends ((pair_block F i).offset + (pair_block F i).size) (pair_blocks F n (suc i)) end h.1)
        | no other ↦
            let inside = pair-among n (suc i) ((pair_block F i).offset + (pair_block F i).size) end h.1 k (omega arith) (omega arith) in
            (omega (arith, h.0, inside.0), inside.1)
      ]

  pairs_ordered
      : (n i position end : ℕ) → Ascending position (pair_blocks F n i) end → (j k : ℕ) → i ≤ j → j < k → k < i + n
      → (pair_block F j).offset + (pair_block F j).size ≤ (pair_block F k).offset
  unfolding pair_blocks Ascending
  pairs_ordered zero i position end h j k l m r = absurd (omega arith)
  pairs_ordered (suc n) i position end h j k l m r =
      elim (ℕ_discrete j i) [
        | yes same ↦
            rw same (pair-among n (suc i) ((pair_block F i).offset + (pair_block F i).size) end h.1 k (omega arith) (omega arith)).0
        | no other ↦ pairs_ordered n (suc i) ((pair_block F i).offset + (pair_block F i).size) end h.1 j k (omega arith) m (omega arith)
      ]

  -- the last pair ends at the end
  last-pair_ends
      : (n i position end : ℕ) → Ascending position (pair_blocks F n i) end → (k : ℕ) → i ≤ k → suc k ≡ i + n
      → (pair_block F k).offset + (pair_block F k).size ≡ end
  unfolding pair_blocks Ascending
  last-pair_ends zero i position end h k l m = absurd (omega arith)
  last-pair_ends (suc zero) i position end h k l m = let same : k ≡ i = omega arith in rw same h.1
  last-pair_ends (suc (suc n)) i position end h k l m =
      last-pair_ends (suc n) (suc i) ((pair_block F i).offset + (pair_block F i).size) end h.1 k (omega arith) (omega arith)

  -- a packed file, in its parts
  record PackedParts (end : ℕ) : Type 0 where
    zeros-there : header_zeros F ≡ true
    others : others_empty F ≡ true
    middle : ℕ
    segment_blocks_lem : Ascending header_size (segment_blocks F (count F segments) 0) middle
    pair_blocks_lem : Ascending middle (pair_blocks F 15 0) end

  packed-parts : (end : ℕ) → packed_to F end ≡ true → PackedParts end
  unfolding packed_to
  packed-parts end h =
      let blocks = segment_blocks F (count F segments) 0 ++ pair_blocks F 15 0 in
      let header = both (header_zeros F) (others_empty F && ends_at (packed_from F header_size blocks) end) h in
      let rest = both (others_empty F) (ends_at (packed_from F header_size blocks) end) header.1 in
      let lists = ascending-parts header_size (segment_blocks F (count F segments) 0) (pair_blocks F 15 0) end (packed_ascends header_size blocks end rest.1) in
      record { zeros-there = header.0; others = rest.0; middle = lists.0; segment_blocks_lem = lists.1; pair_blocks_lem = lists.2 }

  -- the 15 pairs of a file one after another between the header and an end
  pub record PairsInOrder (end : ℕ) : Type 0 where
    pub pair_inside : (k : ℕ) → k < 15 → (header_size ≤ (pair_block F k).offset) × ((pair_block F k).offset + (pair_block F k).size ≤ end)
    pub pair_before : (j k : ℕ) → j < k → k < 15 → (pair_block F j).offset + (pair_block F j).size ≤ (pair_block F k).offset

module _ (d : List ℕ) (is_packed : packed d ≡ true) where
  abbrev F₀ : ℕ → ℕ
  F₀ = file_of d

  parts : PackedParts F₀ (length d)
  unfolding packed
  parts = packed-parts F₀ (length d) is_packed

  before_pairs : header_size ≤ parts.middle
  before_pairs = ascending_ends header_size (segment_blocks F₀ (count F₀ segments) 0) parts.middle parts.segment_blocks_lem

  -- the pairs
  pub pairs_in_order : PairsInOrder F₀ (length d)
  pairs_in_order =
      record {
        pair_inside = λ k l.
            let inside = pair-among F₀ 15 0 parts.middle (length d) parts.pair_blocks_lem k (omega arith) (omega arith) in
            (omega (arith, before_pairs, inside.0), inside.1);
        pair_before = λ j k l m. pairs_ordered F₀ 15 0 parts.middle (length d) parts.pair_blocks_lem j k (omega arith) l (omega arith);
      }

  -- a segment with bytes lies between the header and the first string area
  pub segment-in_file
      : (i : ℕ) → i < count F₀ segments → in_file (file_segment F₀ i).kind ≡ true
      → (header_size ≤ (file_segment F₀ i).offset) × ((file_segment F₀ i).offset + (file_segment F₀ i).size ≤ word F₀ module_name_offset)
  unfolding pair_block
  segment-in_file i l bytes =
      let inside = segment-among F₀ (count F₀ segments) 0 header_size parts.middle parts.segment_blocks_lem i (omega arith) (omega arith) bytes in
      let first = pair-among F₀ 15 0 parts.middle (length d) parts.pair_blocks_lem 0 (omega arith) (omega arith) in
      (inside.0, omega (arith, inside.1, first.0))

  -- the first string area starts in the description
  pub first_area_inside : word F₀ module_name_offset ≤ length d
  unfolding pair_block
  first_area_inside = omega (arith, pairs_in_order.pair_inside 0 (omega arith))

  pub header-fits : header_size ≤ length d
  header-fits = omega (arith, pairs_in_order.pair_inside 0 (omega arith))

  -- "other tables empty": of these the last one
  last_empty : count F₀ static_relocations ≡ 0
  unfolding count others_empty
  last_empty =
      let tree = both (eqb (word F₀ export_tree_num) 0) _ parts.others in
      let static = both (eqb (word F₀ static_anonymous_symbol_num) 0) _ tree.1 in
      eqb-true (word F₀ static_relocation_num) 0 static.1

  -- the description ends where the last table, which is empty, starts
  pub description_length : word F₀ static_relocation_table_offset ≡ length d
  unfolding pair_block count table_entry_sizes
  description_length =
      omega (arith, last_empty, last-pair_ends F₀ 15 0 parts.middle (length d) parts.pair_blocks_lem 14 (omega arith) refl)

  pub header-zeros : header_zeros F₀ ≡ true
  header-zeros = parts.zeros-there

  -- the image holds the description
  pub image_holds : length d ≤ image_size d
  image_holds = omega arith
