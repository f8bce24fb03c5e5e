-- What the proofs of `writer::apart` cite: two words that do not overlap, a walk over both tables of words, and words past the image's end.
use Prim.Native.Nat.{ℕ, ◌+◌, ◌-◌, ◌≤◌, ◌<◌, max}
use mathlib.Core.Path.{◌≡◌, refl, sym, ◌∙◌}
use mathlib.Core.Logic.{◌⊎◌, inl, inr, ⊎_elim}
use mathlib.Core.List.{List}
use mathlib.Core.Bool.{Bool, true, false, not, ◌&&◌, ◌||◌}
use native.Mathlib.Omega.{arith}
use native.Mathlib.Nat.{le-max_left, le-max_right}
use native.Mathlib.Decide.{ℕ_discrete, dec_lt}
use lib.Dec.{leb}
use borrow.Author.Tests.{le-leb, leb-true, eq-eqb, ne_eqb, not-true}
use Rattle.window.specs.Tests.{both}
use Rattle.history.specs.Image.{externals, internals, count}
use Rattle.writer_spec.specs.All.{all_below, all-at, all_true, all_false, all_fails, all_same}
use Rattle.writer_spec.specs.Words.{word_count, word_of, places_apart, words_apart, far_past, far_apart, past_image}
use Rattle.writer_spec.specs.declared.words.WordPlace.{WordPlace}
use Rattle.writer_spec.specs.declared.words.WordPlace.TheVariants.{InImage, InData, InBss, Nowhere}
use Rattle.writer_spec.specs.declared.words.Room.{Room}
use Rattle.writer.specs.Apart.{key_of, is_somewhere, apart_between, apart_from, clear_of, far_from, next_number, ExternalFirst}

or_swapped : (a b : Bool) → (a || b) ≡ (b || a)
or_swapped true true = refl
or_swapped true false = refl
or_swapped false true = refl
or_swapped false false = refl

neither : (a b : Bool) → (a || b) ≡ false → (a ≡ false) × (b ≡ false)
neither false b failed = (refl, failed)
neither true b failed = (failed, let z : ◌≡◌ {A = Bool} true false = failed in cc)

either : (a b : Bool) → (a || b) ≡ true → (a ≡ true) ⊎ (b ≡ true)
either true b held = inl refl
either false b held = inr held

apart_swapped : (a b : WordPlace) → places_apart a b ≡ places_apart b a
unfolding places_apart
apart_swapped (InImage c) (InImage e) = or_swapped (leb (c + 4) e) (leb (e + 4) c)
apart_swapped (InImage c) (InData e) = refl
apart_swapped (InImage c) (InBss e) = refl
apart_swapped (InImage c) Nowhere = refl
apart_swapped (InData c) (InImage e) = refl
apart_swapped (InData c) (InData e) = or_swapped (leb (c + 4) e) (leb (e + 4) c)
apart_swapped (InData c) (InBss e) = refl
apart_swapped (InData c) Nowhere = refl
apart_swapped (InBss c) (InImage e) = refl
apart_swapped (InBss c) (InData e) = refl
apart_swapped (InBss c) (InBss e) = or_swapped (leb (c + 4) e) (leb (e + 4) c)
apart_swapped (InBss c) Nowhere = refl
apart_swapped Nowhere (InImage e) = refl
apart_swapped Nowhere (InData e) = refl
apart_swapped Nowhere (InBss e) = refl
apart_swapped Nowhere Nowhere = refl

-- a word is apart from one that is nowhere, and from one that is past it by the key
nowhere : (w : WordPlace) → is_somewhere w ≡ false → w ≡ Nowhere
nowhere Nowhere none = refl
nowhere (InImage c) none = let z : ◌≡◌ {A = Bool} true false = none in cc
nowhere (InData c) none = let z : ◌≡◌ {A = Bool} true false = none in cc
nowhere (InBss c) none = let z : ◌≡◌ {A = Bool} true false = none in cc

nowhere_apart : (a b : WordPlace) → is_somewhere b ≡ false → places_apart a b ≡ true
unfolding places_apart
nowhere_apart a b none = rw (nowhere b none) (apart_swapped a Nowhere)

past-apart : (a b : WordPlace) → key_of a + 4 ≤ key_of b → places_apart a b ≡ true
unfolding places_apart
past-apart (InImage c) (InImage e) past = rw (le-leb (c + 4) e past)
past-apart (InImage c) (InData e) past = refl
past-apart (InImage c) (InBss e) past = refl
past-apart (InImage c) Nowhere past = refl
past-apart (InData c) (InImage e) past = refl
past-apart (InData c) (InData e) past = rw (le-leb (c + 4) e (omega arith))
past-apart (InData c) (InBss e) past = refl
past-apart (InData c) Nowhere past = refl
past-apart (InBss c) (InImage e) past = refl
past-apart (InBss c) (InData e) past = refl
past-apart (InBss c) (InBss e) past = rw (le-leb (c + 4) e (omega arith))
past-apart (InBss c) Nowhere past = refl
past-apart Nowhere b past = refl

module _ (F : ℕ → ℕ) where
  -- number r is one of the words walked, the first i external and the first j internal ones; number n is the one to look at next
  abbrev Seen : (i j r : ℕ) → Type 0
  Seen i j r = (r < i) ⊎ ((count F externals ≤ r) × (r < count F externals + j))

  abbrev pub Next : (i j n : ℕ) → Type 0
  Next i j n = ((n ≡ i) × (i < count F externals)) ⊎ ((n ≡ count F externals + j) × (j < count F internals))

  pub both_counted : {external internal : ℕ} → external ≡ count F externals → internal ≡ count F internals → external + internal ≡ word_count F
  unfolding word_count
  both_counted external internal = rw (external, internal)

  pub external_left : (i j : ℕ) {first : Bool} → first ≡ true → ExternalFirst F i j first → i < count F externals
  external_left i j taken next = rw taken at next

  pub internal_left
      : (i j : ℕ) {first : Bool} {all external : ℕ} → all ≡ word_count F → external ≡ count F externals → i ≤ external → i + j < all
      → first ≡ false → ExternalFirst F i j first → j < count F internals
  unfolding word_count
  internal_left i j counted said low inside left next =
      elim (ℕ_discrete i (count F externals)) [ yes e ↦ omega arith | no m ↦ (rw left at next) (omega arith) ]

  pub next_is
      : (first : Bool) {i j n all external : ℕ} → all ≡ word_count F → external ≡ count F externals → i ≤ external → i + j < all
      → ExternalFirst F i j first → n ≡ next_number first external i j → Next i j n
  next_is true counted said low inside next number = inl (number, next)
  next_is false {i} {j} counted said low inside next number =
      inr (number ∙ rw said, internal_left i j counted said low inside refl next)

  pub next-inside : {i j n : ℕ} → Next i j n → n < word_count F
  unfolding word_count
  next-inside (inl (same, inside)) = omega arith
  next-inside (inr (same, inside)) = omega arith

  seen-inside : {i j r : ℕ} → i ≤ count F externals → j ≤ count F internals → Seen i j r → r < word_count F
  unfolding word_count
  seen-inside low high (inl below) = omega arith
  seen-inside low high (inr (past, below)) = omega arith

  next-other : {i j n r : ℕ} → i ≤ count F externals → Next i j n → Seen i j r → (r < n) ⊎ (n < r)
  next-other low (inl (same, inside)) (inl below) = inl (omega arith)
  next-other low (inl (same, inside)) (inr (past, below)) = inr (omega arith)
  next-other low (inr (same, inside)) (inl below) = inl (omega arith)
  next-other low (inr (same, inside)) (inr (past, below)) = inl (omega arith)

module _ (F : ℕ → ℕ) (kinds : List ℕ) (room : Room) where
  -- a word against those with numbers from `from` to `to`
  module _ (w : WordPlace) (from : ℕ) where
    between-at
        : (to r : ℕ) → apart_between F kinds room w from to ≡ true → from ≤ r → r < to → places_apart (word_of F kinds room r) w ≡ true
    unfolding apart_between
    between-at to r held past inside =
        let number : from + (r - from) ≡ r = omega arith in
        rw number at (all-at (to - from) _ held (r - from) (omega arith))

    between_fails
        : (to : ℕ) → apart_between F kinds room w from to ≡ false
        → (r : ℕ) × (from ≤ r) × (r < to) × (places_apart (word_of F kinds room r) w ≡ false)
    unfolding apart_between
    between_fails to failed =
        let found = all_fails (to - from) _ failed in (from + found.0, omega arith, omega (arith, found.1), found.2)

  from-apart
      : (w : WordPlace) (i j r : ℕ) → apart_from F kinds room w i j ≡ true → Seen F i j r → places_apart (word_of F kinds room r) w ≡ true
  unfolding apart_from
  from-apart w i j r held seen =
      let internal = apart_between F kinds room w (count F externals) (count F externals + j) in
      let parts = both (apart_between F kinds room w 0 i) internal held in
      ⊎_elim (λ below. between-at w 0 i r parts.0 (omega arith) below)
      (λ l. between-at w (count F externals) (count F externals + j) r parts.1 l.0 l.1) seen

  from_fails
      : (w : WordPlace) (i j : ℕ) → apart_from F kinds room w i j ≡ false
      → (r : ℕ) × Seen F i j r × (places_apart (word_of F kinds room r) w ≡ false)
  unfolding apart_from
  from_fails w i j failed = go (apart_between F kinds room w 0 i) refl failed
    where
      go
          : (b : Bool) → apart_between F kinds room w 0 i ≡ b
          → (b && apart_between F kinds room w (count F externals) (count F externals + j)) ≡ false
          → (r : ℕ) × Seen F i j r × (places_apart (word_of F kinds room r) w ≡ false)
      go false e f = let found = between_fails w 0 i e in (found.0, inl found.2, found.3)
      go true e f =
          let found = between_fails w (count F externals) (count F externals + j) f in
          (found.0, inr (found.1, found.2), found.3)

  -- no two of those walked overlap, and their keys are at most `last`
  pub record Walked (i j last : ℕ) : Type 0 where
    pub apart : (r k : ℕ) → Seen F i j r → Seen F i j k → r < k → places_apart (word_of F kinds room r) (word_of F kinds room k) ≡ true
    pub below : (r : ℕ) → Seen F i j r → key_of (word_of F kinds room r) ≤ last

  Clear-apart
      : {i j last : ℕ} (w : WordPlace) → Walked i j last → clear_of F kinds room w i j last ≡ true → (r : ℕ) → Seen F i j r
      → places_apart (word_of F kinds room r) w ≡ true
  unfolding clear_of
  Clear-apart {i} {j} {last} w walked held r seen =
      ⊎_elim (λ none. nowhere_apart _ _ (not-true _ none))
      (λ rest.
      ⊎_elim (λ past. past-apart _ _ (omega (arith, walked.below r seen, leb-true (last + 4) (key_of w) past)))
      (λ apart. from-apart w i j r apart seen) (either (leb (last + 4) (key_of w)) _ rest)) (either (not (is_somewhere w)) _ held)

  -- one word more, number n, which is clear of those walked
  Walked-more
      : {i j last i' j' last' : ℕ} (n : ℕ) → Walked i j last → clear_of F kinds room (word_of F kinds room n) i j last ≡ true
      → ((r : ℕ) → Seen F i' j' r → Seen F i j r ⊎ (r ≡ n)) → last ≤ last' → key_of (word_of F kinds room n) ≤ last' → Walked i' j' last'
  Walked-more {i} {j} {last} {i'} {j'} {last'} n walked clear old-or-new grows reaches =
      record {
        apart = λ r k seen_r seen-k before. pair r k before (old-or-new r seen_r) (old-or-new k seen-k);
        below = λ r seen. ⊎_elim (λ old. omega (arith, walked.below r old)) (λ new. rw new reaches) (old-or-new r seen);
      }
    where
      pair
          : (r k : ℕ) → r < k → Seen F i j r ⊎ (r ≡ n) → Seen F i j k ⊎ (k ≡ n)
          → places_apart (word_of F kinds room r) (word_of F kinds room k) ≡ true
      pair r k before (inl old-r) (inl old-k) = walked.apart r k old-r old-k before
      pair r k before (inl old-r) (inr new-k) = rw new-k (Clear-apart (word_of F kinds room n) walked clear r old-r)
      pair r k before (inr new-r) (inl old-k) =
          rw new-r (apart_swapped (word_of F kinds room n) (word_of F kinds room k) ∙ Clear-apart (word_of F kinds room n) walked clear k old-k)
      pair r k before (inr new-r) (inr new-k) = absurd (omega arith)

  -- an external word more, and an internal one
  module _
      {i j last last' n k : ℕ} {answer : Bool} {word : WordPlace} (walked : Walked i j last) (said : word ≡ word_of F kinds room n)
      (answered : answer ≡ clear_of F kinds room word i j last) (held : answer ≡ true) (key : k ≡ key_of word) (grown : last' ≡ max last k) where
    number_walked
        : (i' j' m : ℕ) → n ≡ m → ((r : ℕ) → Seen F i' j' r → Seen F i j r ⊎ (r ≡ m)) → Walked i' j' last'
    number_walked i' j' m same old-or-new =
        let place : word ≡ word_of F kinds room m = said ∙ rw same in
        Walked-more m walked (rw (← place, ← answered) held) old-or-new (rw grown (le-max_left last k))
        (rw (grown, ← place, ← key) (le-max_right last k))

    pub external_walked : {first : Bool} (external : ℕ) → first ≡ true → n ≡ next_number first external i j → Walked (i + 1) j last'
    external_walked external taken number =
        number_walked (i + 1) j i (rw taken at number)
        (λ r seen.
        ⊎_elim (λ l. elim (ℕ_discrete r i) [ yes e ↦ inr e | no m ↦ inl (inl (omega arith)) ]) (λ l. inl (inr l)) seen)

    pub internal_walked
        : {first : Bool} {external : ℕ} → external ≡ count F externals → first ≡ false → n ≡ next_number first external i j
        → Walked i (j + 1) last'
    internal_walked counted left number =
        number_walked i (j + 1) (count F externals + j) ((rw left at number) ∙ rw counted)
        (λ r seen.
        ⊎_elim (λ l. inl (inl l))
        (λ l. elim (ℕ_discrete r (count F externals + j)) [ yes e ↦ inr e | no m ↦ inl (inr (l.0, omega arith)) ]) seen)

  -- a pair that overlaps
  apart_fails
      : (r k : ℕ) → r < k → k < word_count F → places_apart (word_of F kinds room r) (word_of F kinds room k) ≡ false
      → false ≡ words_apart F kinds room
  unfolding words_apart
  apart_fails r k before inside failed = sym (all_false (word_count F) _ k inside (all_false k _ r before failed))

  pub words_overlap
      : {i j n external : ℕ} (last : ℕ) {answer : Bool} {word : WordPlace} → external ≡ count F externals → i ≤ external → j ≤ count F internals
      → Next F i j n → word ≡ word_of F kinds room n → answer ≡ clear_of F kinds room word i j last → answer ≡ false
      → false ≡ words_apart F kinds room
  unfolding clear_of
  words_overlap {i} {j} {n} last counted low high next said answered failed =
      let w = word_of F kinds room n in
      let whole : clear_of F kinds room w i j last ≡ false = rw (← said, ← answered) failed in
      let rest = (neither (not (is_somewhere w)) (leb (last + 4) (key_of w) || apart_from F kinds room w i j) whole).1 in
      let found = from_fails w i j (neither (leb (last + 4) (key_of w)) (apart_from F kinds room w i j) rest).1 in
      let inside : i ≤ count F externals = omega arith in
      ⊎_elim (λ before. apart_fails found.0 n before (next-inside F next) found.2)
      (λ before.
      apart_fails n found.0 before (seen-inside F inside high found.1)
      (apart_swapped w (word_of F kinds room found.0) ∙ found.2))
      (next-other F inside next found.1)

  -- all words are walked
  pub all_walked
      : {i j last all external : ℕ} → all ≡ word_count F → external ≡ count F externals → i ≤ external → j ≤ count F internals → all ≤ i + j
      → Walked i j last → true ≡ words_apart F kinds room
  unfolding words_apart word_count
  all_walked {i} {j} counted said low high done walked =
      let seen : (r : ℕ) → r < count F externals + count F internals → Seen F i j r = λ r l.
      elim (dec_lt r i) [ yes below ↦ inl below | no past ↦ inr (omega arith, omega arith) ] in
      sym
      (all_true (count F externals + count F internals) _
      (λ k l. all_true k _ (λ r m. walked.apart r k (seen r (omega arith)) (seen k l) m)))

  -- a word against all that lie in the lent areas
  pub far_from_lem
      : {e : ℕ} (a : WordPlace) {answer : Bool} → e ≡ past_image room a → (e ≡ 0 → ⊥)
      → answer ≡ all_below (word_count F) (λ k. far_past room e (word_of F kinds room k)) → answer ≡ far_from F kinds room a
  unfolding far_from far_apart
  far_from_lem {e} a said past answered =
      answered ∙ all_same (word_count F) _ _ (λ k l. rw (← said, ne_eqb e 0 past))

  pub near_from : {e : ℕ} (a : WordPlace) → e ≡ past_image room a → e ≡ 0 → far_from F kinds room a ≡ true
  unfolding far_from far_apart
  near_from {e} a said none = all_true (word_count F) _ (λ k l. rw (← said, eq-eqb e 0 none))
