-- The relocated words of a packed description's image in a place, by their numbers in the description.
use Rattle.std.specs.Prelude.{ℕ, ◌≤◌, ◌<◌, ◌≡◌, ◌≢◌, List, true, length}
use Rattle.std.proofs.Common.{subst, arith}
use Rattle.window.specs.Mirror.{word}
use Rattle.layout.specs.Header.{module_name_offset, on_unresolved_segment_tag}
use Rattle.linker_spec.specs.declared.rebase.LoadArguments.{LoadArguments}
use Rattle.history.specs.Image.{segments, externals, internals, start}
use Rattle.history.specs.LoadedModule.{LentArea, Area, handler}
use Rattle.history.specs.WellLaid.{Part, InPart, Touched, Relocated, WordAt}
use Rattle.writer_spec.specs.Description.{file_of, image_size, image_of}
use Rattle.writer_spec.specs.Words.{room_of, usable, word_kinds, word_count, word_of, touched_byte}
use Rattle.writer_spec.specs.declared.words.Room.{Room}
use Rattle.writer_spec.specs.declared.words.WordPlace.{WordPlace}
use Rattle.writer_laid.specs.Accepted.{placed}
use Rattle.writer_laid.specs.InPlace.Places.{Holds, room_for}
use Rattle.writer_laid.specs.InPlace.Standing.{Stands, InAreas, Bounded}
use Rattle.writer_laid.specs.InPlace.SegmentPlaces.{SegmentsIn, handler-there, handler-usable}
use Rattle.writer_laid.specs.InPlace.WordPlaces.{relocated_at, word_number, number_word, number_bounded}
use Rattle.writer_laid.specs.InPlace.SameWords.{SameReadings, same_readings, room-same, usable_same, word-count-same, word_same}

-- what a packed description's offsets and its touched bytes are
pub record PackedFacts (d : List ℕ) : Type 0 where
  pub header-fits : 0x138 ≤ length d
  pub first_area_inside : word (file_of d) module_name_offset ≤ length d
  pub segments-past : 0x138 ≤ start (file_of d) segments
  pub externals-past : 0x138 ≤ start (file_of d) externals
  pub internals-past : 0x138 ≤ start (file_of d) internals
  pub segment-in_file : SegmentsIn (file_of d) (word (file_of d) module_name_offset)
  pub touched_part
      : (o : ℕ) → touched_byte (file_of d) o ≡ true → (s : Part) × InPart (file_of (image_of d)) s o × Touched (file_of (image_of d)) s o
  pub part_touched
      : (o : ℕ) (s : Part) → InPart (file_of (image_of d)) s o → Touched (file_of (image_of d)) s o → touched_byte (file_of d) o ≡ true
  pub before_areas
      : (o : ℕ) → 0x138 ≤ o → o < word (file_of d) module_name_offset → (s : Part) → InPart (file_of (image_of d)) s o → ⊥
  pub touched_inside : (o : ℕ) → touched_byte (file_of d) o ≡ true → o < length d

-- word number k of the description
abbrev pub word_for : List ℕ → ℕ → WordPlace
word_for d = word_of (file_of d) word_kinds (room_for d)

-- a relocation that has number k and stands at p
pub record NumberedAt (d : List ℕ) (l : LoadArguments) (r : Relocated) (p : ℕ) : Type 0 where
  pub number : ℕ
  pub below : number < word_count (file_of d)
  pub is : relocated_at (file_of (image_of d)) number ≡ r
  pub stands : Stands l (word_for d number) p

pub area_of : (d : List ℕ) (l : LoadArguments) (q : ℕ) → InAreas l q → Area (placed d l) q
unfolding Area LentArea
area_of d l q i = i

pub of_area : (d : List ℕ) (l : LoadArguments) (q : ℕ) → Area (placed d l) q → InAreas l q
unfolding Area LentArea
of_area d l q i = i

module _ (d : List ℕ) (facts : PackedFacts d) where
  abbrev F : ℕ → ℕ
  F = file_of d

  abbrev G : ℕ → ℕ
  G = file_of (image_of d)

  same : SameReadings F G
  same = same_readings d facts.segments-past facts.externals-past facts.internals-past

  -- the image's segments lie in it
  in_image : SegmentsIn G (image_size d)
  in_image i b =
      rw (same.segment-same i)
      (λ k. let f = facts.segment-in_file i (rw same.segment-count at b) k in
      (f.0, omega (arith, facts.first_area_inside)))

  pub image_some : 0 < image_size d
  image_some = omega (arith, facts.header-fits)

  module _ (l : LoadArguments) (h : Holds (room_for d) l) where
    holds : Holds (room_of G (image_size d)) l
    holds = rw (room-same F G same (image_size d)) h

    pub numbered : (r : Relocated) (p : ℕ) → WordAt (placed d l) r p → NumberedAt d l r p
    numbered r p w =
        let n = word_number G l (image_size d) holds in_image r p w in
        record {
          number = n.0;
          below = rw (word-count-same F G same) at n.1;
          is = n.2;
          stands = rw (word_same F G same (image_size d) n.0) at n.3;
        }

    pub relocated : (k p : ℕ) → k < word_count F → Stands l (word_for d k) p → WordAt (placed d l) (relocated_at G k) p
    relocated k p b s =
        number_word G l (image_size d) holds in_image k p (rw (word-count-same F G same) b) (rw (word_same F G same (image_size d) k) s)

    pub bounded : (k : ℕ) → Bounded (room_for d) (word_for d k)
    bounded k =
        subst (λ (r : Room). Bounded r (word_for d k)) (room-same F G same (image_size d))
        (rw (word_same F G same (image_size d) k) at (number_bounded G l (image_size d) holds in_image k))

    -- the handler's address is not 0 exactly if its tag is usable
    pub handler-laid : usable F (word F on_unresolved_segment_tag) ≡ true → handler (placed d l) ≢ 0
    handler-laid u = handler-there G l (image_size d) holds in_image (rw (same.handler-same, usable_same F G same) u)

    pub laid-handler : handler (placed d l) ≢ 0 → usable F (word F on_unresolved_segment_tag) ≡ true
    laid-handler n = rw (same.handler-same, usable_same F G same) at (handler-usable G l (image_size d) holds in_image n)
