-- An image that is well laid in each place, and has one, has a handler and relocated words that pass the tests.
use Rattle.std.specs.Prelude.{ℕ, ◌≤◌, ◌<◌, ◌≡◌, ◌≢◌, List}
use Rattle.std.proofs.Math.Path.{refl}
use Rattle.std.proofs.Common.{sym, arith}
use Rattle.std.proofs.Math.Bool.{true}
use Rattle.std.proofs.Math.Decide.{ℕ_discrete, dec_lt}
use Rattle.window.specs.Mirror.{word}
use Rattle.window.specs.Tests.{also}
use Rattle.layout.specs.Header.{on_unresolved_segment_tag}
use Rattle.linker_spec.specs.declared.rebase.LoadArguments.{LoadArguments}
use Rattle.history.specs.WellLaid.{LaidInPlace}
use Rattle.writer_spec.specs.All.{all_below, all_true}
use Rattle.writer_spec.specs.Description.{file_of, image_size, image_of}
use Rattle.writer_spec.specs.Words.{usable, word_kinds, word_count, word_inside, places_apart, far_apart, word_off, words_inside, words_apart, far_words_apart, words_off, words_good}
use Rattle.writer_spec.specs.declared.words.Room.{Room}
use Rattle.writer_spec.specs.declared.words.WordPlace.{WordPlace}
use Rattle.writer_spec.specs.declared.words.WordPlace.TheVariants.{InImage, InData, InBss, Nowhere}
use Rattle.writer_laid.specs.Accepted.{Fits, placed}
use Rattle.writer_laid.specs.InPlace.Places.{Holds, room_for, fits-holds, holds_fits}
use Rattle.writer_laid.specs.InPlace.Line.{past, Fitting, fits-between}
use Rattle.writer_laid.specs.InPlace.Standing.{InsideAll, ApartAll}
use Rattle.writer_laid.specs.InPlace.InsideOnly.{inside_only}
use Rattle.writer_laid.specs.InPlace.ApartOnly.{places_only, far_apart_only, far_self}
use Rattle.writer_laid.specs.InPlace.WordPlaces.{relocated_at, number_once}
use Rattle.writer_laid.specs.InPlace.WordOff.{Untouched, off_test}
use Rattle.writer_laid.specs.InPlace.Numbered.{PackedFacts, word_for, of_area, image_some, relocated, bounded, laid-handler}

module _ (d : List ℕ) (facts : PackedFacts d) where
  abbrev F : ℕ → ℕ
  F = file_of d

  abbrev G : ℕ → ℕ
  G = file_of (image_of d)

  abbrev room : Room
  room = room_for d

  -- laid in each place, and one place
  module _ (laid : (l : LoadArguments) → Fits d l → LaidInPlace (placed d l)) (l₀ : LoadArguments) (fits : Fits d l₀) where
    place : Holds room l₀
    place = fits-holds d l₀ fits

    between : Fitting room
    between = fits-between room l₀ place (image_some d facts)

    laid_in : (l : LoadArguments) → Holds room l → LaidInPlace (placed d l)
    laid_in l h = laid l (holds_fits d l h)

    -- each word in all places
    inside-all : (k : ℕ) → k < word_count F → InsideAll room (word_for d k)
    inside-all k b l h p s q i = of_area d l q ((laid_in l h).words_inside_lem (relocated_at G k) p (relocated d facts l h k p b s) q i)

    -- two words in all places
    every
        : (i k : ℕ) → i ≢ k → i < word_count F → k < word_count F → ApartAll room (word_for d i) (word_for d k)
    every i k n a b l h = (
      inside-all i a l h,
      inside-all k b l h,
      λ p q x s t f g. (laid_in l h).words-apart (relocated_at G i) (relocated_at G k) (differ (dec_lt i k)) p q
          (relocated d facts l h i p a s) (relocated d facts l h k q b t) x f g,
    )
      where
        differ : Dec (i < k) → relocated_at G i ≢ relocated_at G k
        differ (yes m) = number_once G i k m
        differ (no m) = λ e. number_once G k i (omega arith) (sym e)

    -- so the tests hold
    all-inside : words_inside F word_kinds room ≡ true
    unfolding words_inside
    all-inside =
        all_true (word_count F) (λ k. word_inside room (word_for d k))
        (λ k b. inside_only room between (word_for d k) (bounded d facts l₀ place k) (inside-all k b))

    all_apart : words_apart F word_kinds room ≡ true
    unfolding words_apart
    all_apart =
        all_true (word_count F) (λ k. all_below k (λ i. places_apart (word_for d i) (word_for d k)))
        (λ k b. all_true k (λ i. places_apart (word_for d i) (word_for d k))
        (λ i m. places_only room between (word_for d i) (word_for d k) (bounded d facts l₀ place i) (bounded d facts l₀ place k)
        (every i k (omega arith) (omega arith) b)))

    all_far : far_words_apart F word_kinds room ≡ true
    unfolding far_words_apart
    all_far =
        all_true (word_count F) (λ i. all_below (word_count F) (λ k. far_apart room (word_for d i) (word_for d k)))
        (λ i a. all_true (word_count F) (λ k. far_apart room (word_for d i) (word_for d k)) (λ k b. go i k a b (ℕ_discrete i k)))
      where
        go : (i k : ℕ) → i < word_count F → k < word_count F → Dec (i ≡ k) → far_apart room (word_for d i) (word_for d k) ≡ true
        go i k a b (yes e) = rw e (far_self room (word_for d k))
        go i k a b (no n) = far_apart_only room between (word_for d i) (word_for d k) (bounded d facts l₀ place k) (every i k n a b)

    -- a touched byte of a word breaks the place at hand already
    off_only : (k : ℕ) → k < word_count F → (w : WordPlace) → word_for d k ≡ w → word_off F room w ≡ true
    unfolding word_off
    off_only k b (InImage c) e = off_test F room c untouched
      where
        untouched : c ≤ image_size d → Untouched F c
        untouched m o i t =
            let s = facts.touched_part o t in
            (laid_in l₀ place).words-off (relocated_at G k) (past l₀.base c) (relocated d facts l₀ place k (past l₀.base c) b (rw e refl)) s.0 o
            s.1 s.2 (omega (arith, place.base_below, place.whole))
    off_only k b (InData t) e = refl
    off_only k b (InBss t) e = refl
    off_only k b Nowhere e = refl

    all-off : words_off F word_kinds room ≡ true
    unfolding words_off
    all-off = all_true (word_count F) (λ k. word_off F room (word_for d k)) (λ k b. off_only k b (word_for d k) refl)

    pub only_in_place : (usable F (word F on_unresolved_segment_tag) ≡ true) × (words_good F word_kinds room ≡ true)
    unfolding words_good
    only_in_place =
        (laid-handler d facts l₀ place (laid_in l₀ place).handler-there, also all-inside (also all_apart (also all_far all-off)))
