-- Where the relocated words of an image stand in a place: at the addresses of the offsets that the writer computes.
use Rattle.std.specs.Prelude.{if◌then◌else◌, ℕ, ◌+◌, ◌-◌, ◌<◌, ◌≡◌, refl, ◌≢◌, Bool, ◌&&◌, ltb}
use Rattle.std.proofs.Common.{sym, ◌∙◌}
use Rattle.std.proofs.Math.Bool.{true, false}
use native.Mathlib.Omega.{arith}
use Rattle.std.proofs.Math.Decide.{dec_lt}
use borrow.Author.Tests.{lt-ltb, le-ltb, ltb-true}
use Rattle.window.specs.Tests.{both}
use Rattle.linker_spec.specs.declared.rebase.LoadArguments.{LoadArguments}
use Rattle.history.specs.Image.{segments, externals, internals, count, tag, kind, symbol_segment}
use Rattle.history.specs.LoadedModule.{Image}
use Rattle.history.specs.WellLaid.{Relocated, external, internal, WordAt}
use Rattle.writer_spec.specs.Words.{counts, word_kinds, last_data, room_of, usable, external_word, internal_word, word_count, number_of_word, word_of}
use Rattle.writer_spec.specs.declared.words.Room.{Room}
use Rattle.writer_spec.specs.declared.words.WordPlace.{WordPlace}
use Rattle.writer_spec.specs.declared.words.WordPlace.TheVariants.{InImage, InData, InBss}
use Rattle.writer_laid.specs.InPlace.Places.{Holds}
use Rattle.writer_laid.specs.InPlace.Standing.{Stands, Bounded}
use Rattle.writer_laid.specs.InPlace.Kinds.{kind_writes}
use Rattle.writer_laid.specs.InPlace.SegmentPlaces.{SegmentsIn, image_at, external_at, internal_at, address_at, written_at, address-usable, address-at, external_stands, external_bounded, internal_stands, internal_bounded}

-- the words of the two tables by number, one table after the other
unfoldable pub relocated_at : (ℕ → ℕ) → ℕ → Relocated
relocated_at G k = if ltb k (count G externals) then external k else internal (k - count G externals)

-- two numbers are two relocations
pub number_once : (G : ℕ → ℕ) (i k : ℕ) → i < k → relocated_at G i ≢ relocated_at G k
unfolding relocated_at
number_once G i k m e = go (dec_lt i (count G externals)) (dec_lt k (count G externals))
  where
    n : ℕ
    n = count G externals

    go : Dec (i < count G externals) → Dec (k < count G externals) → ⊥
    go (yes a) (yes b) =
        let z : external i ≡ external k = rw (lt-ltb i n a, lt-ltb k n b) at e in
        let y : i ≡ k = cc in
        omega arith
    go (yes a) (no b) =
        let z : external i ≡ internal (k - n) = rw (lt-ltb i n a, le-ltb k n (omega arith)) at e in
        let y : ◌≡◌ {A = ℕ} 0 1 = cc in
        omega arith
    go (no a) (yes b) = omega arith
    go (no a) (no b) =
        let z : internal (i - n) ≡ internal (k - n) = rw (le-ltb i n (omega arith), le-ltb k n (omega arith)) at e in
        let y : i - n ≡ k - n = cc in
        omega arith

-- one word has one address
stands_once : (l : LoadArguments) (w : WordPlace) (p q : ℕ) → Stands l w p → Stands l w q → p ≡ q
stands_once l (InImage c) p q e f = e ∙ sym f
stands_once l (InData t) p q e f = e ∙ sym f
stands_once l (InBss t) p q e f = e ∙ sym f
stands_once l WordPlace.Nowhere p q e f = absurd e

-- a word that is there under a condition
chosen : (l : LoadArguments) (b : Bool) (w : WordPlace) (p : ℕ) → Stands l (if b then w else WordPlace.Nowhere) p → (b ≡ true) × Stands l w p
chosen l true w p h = (refl, h)
chosen l false w p h = absurd h

chosen_bounded : (room : Room) (b : Bool) (w : WordPlace) → (b ≡ true → Bounded room w) → Bounded room (if b then w else WordPlace.Nowhere)
chosen_bounded room true w h = h refl
chosen_bounded room false w h = tt

module _ (G : ℕ → ℕ) (l : LoadArguments) (size : ℕ) (holds : Holds (room_of G size) l) (segments_in : SegmentsIn G size) where
  abbrev a : Image
  a = image_at G l

  abbrev room : Room
  room = room_of G size

  -- the words of the external table
  external_is : (i p : ℕ) → WordAt a (external i) p → (i < count G externals) × Stands l (external_word G word_kinds i) p
  unfolding WordAt external_word
  external_is i p h =
      let u = address-at G l (tag G externals i) p h.2 in
      (h.0, rw ((kind_writes a (kind G externals i)).1 h.1, u.0, u.1) (external_stands G l size holds segments_in (tag G externals i) u.0))

  is_external : (i p : ℕ) → i < count G externals → Stands l (external_word G word_kinds i) p → WordAt a (external i) p
  unfolding WordAt external_word
  is_external i p b s =
      let t = tag G externals i in
      let r = chosen l (counts word_kinds (kind G externals i) && usable G t) (external_at G t) p s in
      let m = both (counts word_kinds (kind G externals i)) (usable G t) r.0 in
      let e : p ≡ address_at G l t = stands_once l (external_at G t) p (address_at G l t) r.1 (external_stands G l size holds segments_in t m.1) in
      (b, (kind_writes a (kind G externals i)).0 m.0, rw e (address-usable G l t m.1))

  external_in_bounds : (i : ℕ) → Bounded room (external_word G word_kinds i)
  unfolding external_word
  external_in_bounds i =
      let t = tag G externals i in
      chosen_bounded room (counts word_kinds (kind G externals i) && usable G t) (external_at G t)
      (λ e. external_bounded G l size holds segments_in t (both (counts word_kinds (kind G externals i)) (usable G t) e).1)

  -- and of the internal one
  abbrev symbol_there : ℕ → Bool
  symbol_there i = ltb (symbol_segment G i) (count G segments)

  internal_is
      : (i p : ℕ) → WordAt a (internal i) p
      → (i < count G internals) × Stands l (internal_word G word_kinds (last_data G (count G segments)) i) p
  unfolding WordAt internal_word
  internal_is i p h =
      let u = address-at G l (tag G internals i) h.3 h.4 in
      let e : p ≡ written_at G l (tag G internals i) = rw u.1 at h.5 in (
        h.0,
        rw ((kind_writes a (kind G internals i)).1 h.1, lt-ltb (symbol_segment G i) (count G segments) h.2, u.0, e)
            (internal_stands G l size holds segments_in (tag G internals i) u.0),
      )

  is_internal
      : (i p : ℕ) → i < count G internals → Stands l (internal_word G word_kinds (last_data G (count G segments)) i) p → WordAt a (internal i) p
  unfolding WordAt internal_word
  is_internal i p b s =
      let t = tag G internals i in
      let r = chosen l (counts word_kinds (kind G internals i) && (symbol_there i && usable G t)) (internal_at G t) p s in
      let m = both (counts word_kinds (kind G internals i)) (symbol_there i && usable G t) r.0 in
      let n = both (symbol_there i) (usable G t) m.1 in (
        b,
        (kind_writes a (kind G internals i)).0 m.0,
        ltb-true (symbol_segment G i) (count G segments) n.0,
        address_at G l t,
        address-usable G l t n.1,
        stands_once l (internal_at G t) p (written_at G l t) r.1 (internal_stands G l size holds segments_in t n.1),
      )

  internal_in_bounds : (i : ℕ) → Bounded room (internal_word G word_kinds (last_data G (count G segments)) i)
  unfolding internal_word
  internal_in_bounds i =
      let t = tag G internals i in
      chosen_bounded room (counts word_kinds (kind G internals i) && (symbol_there i && usable G t)) (internal_at G t)
      (λ e.
      internal_bounded G l size holds segments_in t
      (both (symbol_there i) (usable G t) (both (counts word_kinds (kind G internals i)) (symbol_there i && usable G t) e).1).1)

  -- the words of both tables by their numbers
  abbrev word_at : ℕ → WordPlace
  word_at = word_of G word_kinds room

  pub number_word : (k p : ℕ) → k < word_count G → Stands l (word_at k) p → WordAt a (relocated_at G k) p
  unfolding word_count number_of_word relocated_at
  number_word k p b s = go (dec_lt k (count G externals))
    where
      go : Dec (k < count G externals) → WordAt a (relocated_at G k) p
      go (yes m) = let e = lt-ltb k (count G externals) m in rw e (is_external k p m (rw e at s))
      go (no m) =
          let e = le-ltb k (count G externals) (omega arith) in
          rw e (is_internal (k - count G externals) p (omega arith) (rw e at s))

  pub word_number : (r : Relocated) (p : ℕ) → WordAt a r p → (k : ℕ) × (k < word_count G) × (relocated_at G k ≡ r) × Stands l (word_at k) p
  unfolding word_count number_of_word relocated_at
  word_number (external i) p h =
      let s = external_is i p h in
      let e = lt-ltb i (count G externals) s.0 in
      (i, omega arith, rw e, rw e s.1)
  word_number (internal i) p h =
      let s = internal_is i p h in
      let e = le-ltb (count G externals + i) (count G externals) (omega arith) in
      let n : count G externals + i - count G externals ≡ i = omega arith in
      (count G externals + i, omega arith, rw (e, n), rw (e, n) s.1)

  pub number_bounded : (k : ℕ) → Bounded room (word_at k)
  unfolding number_of_word
  number_bounded k = go (ltb k (count G externals))
    where
      go
          : (b : Bool)
          → Bounded room (if b then external_word G word_kinds k else internal_word G word_kinds (last_data G (count G segments)) (k - count G externals))
      go true = external_in_bounds k
      go false = internal_in_bounds (k - count G externals)
