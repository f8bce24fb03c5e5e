-- The image's relocated words and rooms are the description's, if its tables start past the header.
use Prim.Native.Nat.{ℕ, zero, suc, ◌+◌, ◌-◌, ◌≤◌}
use Rattle.std.specs.Prelude.{◌≡◌, List}
use Rattle.std.proofs.Math.Path.{refl}
use native.Mathlib.Omega.{arith}
use Rattle.std.proofs.Common.{lit≤}
use Rattle.window.specs.Mirror.{word}
use Rattle.layout.specs.Header.{on_unresolved_segment_tag}
use Rattle.layout.specs.Format.{tag_segment}
use Rattle.history.specs.Image.{Table, segments, externals, internals, start, count, entry, file_segment, tag, kind, symbol_segment}
use Rattle.writer_spec.specs.Description.{file_of, image_of}
use Rattle.writer_spec.specs.Words.{word_kinds, data_room, bss_room, last_data, room_of, usable, external_word, internal_word, word_count, number_of_word, word_of}
use Rattle.writer_laid.specs.Same.{image_byte, image_word}

-- two files that say the same of segments, tags and relocations
pub record SameReadings (F G : ℕ → ℕ) : Type 0 where
  pub segment-count : count G segments ≡ count F segments
  pub external_count : count G externals ≡ count F externals
  pub internal_count : count G internals ≡ count F internals
  pub segment-same : (i : ℕ) → file_segment G i ≡ file_segment F i
  pub external_tag : (i : ℕ) → tag G externals i ≡ tag F externals i
  pub external_kind : (i : ℕ) → kind G externals i ≡ kind F externals i
  pub internal_tag : (i : ℕ) → tag G internals i ≡ tag F internals i
  pub internal_kind : (i : ℕ) → kind G internals i ≡ kind F internals i
  pub symbol_same : (i : ℕ) → symbol_segment G i ≡ symbol_segment F i
  pub handler-same : word G on_unresolved_segment_tag ≡ word F on_unresolved_segment_tag

module _ (d : List ℕ) where
  abbrev F : ℕ → ℕ
  F = file_of d

  abbrev G : ℕ → ℕ
  G = file_of (image_of d)

  count_same : (t : Table) → 0x94 ≤ t.field → count G t ≡ count F t
  unfolding count
  count_same t h = image_word d (t.field + 4) (omega arith)

  entry-same : (t : Table) → 0x94 ≤ t.field → (i : ℕ) → entry G t i ≡ entry F t i
  unfolding entry start
  entry-same t h i = rw (image_word d t.field h)

  -- words and bytes of an entry of a table that starts past the header
  module _ (t : Table) (listed : 0x94 ≤ t.field) (past-header : 0x138 ≤ start F t) (i : ℕ) where
    entry_past : 0x138 ≤ entry F t i
    unfolding entry
    entry_past = omega arith

    first_word : word G (entry G t i) ≡ word F (entry F t i)
    first_word = rw (entry-same t listed i) (image_word d (entry F t i) (omega (arith, entry_past)))

    later_word : (o : ℕ) → word G (entry G t i + o) ≡ word F (entry F t i + o)
    later_word o = rw (entry-same t listed i) (image_word d (entry F t i + o) (omega (arith, entry_past)))

    later_byte : (o : ℕ) → G (entry G t i + o) ≡ F (entry F t i + o)
    later_byte o = rw (entry-same t listed i) (image_byte d (entry F t i + o) (omega (arith, entry_past)))

  module _ (segments-past : 0x138 ≤ start F segments) (externals-past : 0x138 ≤ start F externals) (internals-past : 0x138 ≤ start F internals) where
    pub same_readings : SameReadings F G
    unfolding file_segment tag kind symbol_segment
    same_readings =
        record {
          segment-count = count_same segments (lit≤ tt);
          external_count = count_same externals (lit≤ tt);
          internal_count = count_same internals (lit≤ tt);
          segment-same =
              λ i.
              let later = later_word segments (lit≤ tt) segments-past i in
              rw (first_word segments (lit≤ tt) segments-past i, later 4, later 8);
          external_tag = λ i. first_word externals (lit≤ tt) externals-past i;
          external_kind = λ i. later_byte externals (lit≤ tt) externals-past i 4;
          internal_tag = λ i. first_word internals (lit≤ tt) internals-past i;
          internal_kind = λ i. later_byte internals (lit≤ tt) internals-past i 4;
          symbol_same = λ i. later_byte internals (lit≤ tt) internals-past i 5;
          handler-same = image_word d on_unresolved_segment_tag (lit≤ tt);
        }

-- rooms and words read no more than that
module _ (F G : ℕ → ℕ) (same : SameReadings F G) where
  data_same : (n : ℕ) → data_room G n ≡ data_room F n
  unfolding data_room
  data_same zero = refl
  data_same (suc n) = rw (data_same n, same.segment-same n)

  bss_same : (n : ℕ) → bss_room G n ≡ bss_room F n
  unfolding bss_room
  bss_same zero = refl
  bss_same (suc n) = rw (bss_same n, same.segment-same n)

  last-same : (n : ℕ) → last_data G n ≡ last_data F n
  unfolding last_data
  last-same zero = refl
  last-same (suc n) = rw (last-same n, same.segment-same n)

  pub room-same : (size : ℕ) → room_of G size ≡ room_of F size
  room-same size =
      rw (same.segment-count, data_same (count F segments), bss_same (count F segments), last-same (count F segments))

  pub usable_same : (t : ℕ) → usable G t ≡ usable F t
  unfolding usable
  usable_same t = rw (same.segment-count, same.segment-same (tag_segment t))

  pub word-count-same : word_count G ≡ word_count F
  unfolding word_count
  word-count-same = rw (same.external_count, same.internal_count)

  external_same : (i : ℕ) → external_word G word_kinds i ≡ external_word F word_kinds i
  unfolding external_word
  external_same i =
      let t = tag F externals i in
      rw (same.external_kind i, same.external_tag i, usable_same t, same.segment-same (tag_segment t))

  internal_same : (last i : ℕ) → internal_word G word_kinds last i ≡ internal_word F word_kinds last i
  unfolding internal_word
  internal_same last i =
      let t = tag F internals i in
      rw (same.internal_kind i, same.internal_tag i, same.symbol_same i, same.segment-count, usable_same t, same.segment-same (tag_segment t))

  pub word_same : (size k : ℕ) → word_of G word_kinds (room_of G size) k ≡ word_of F word_kinds (room_of F size) k
  unfolding number_of_word
  word_same size k =
      let internal = internal_same (last_data G (count G segments)) (k - count F externals) in
      rw (same.external_count, external_same k, internal, same.segment-count, last-same (count F segments))
