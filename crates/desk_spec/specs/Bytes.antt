-- A desk in lent bytes: 592 of them, 148 little-endian words. Words 0 and 1 are the places taken and `next`, words 2 and 3 are 0; then come
-- 8 places of 18 words: caller, buffers waiting, and 16 buffers, the oldest first. Unused words are 0, so all bytes 0 is an empty desk.
use Rattle.std.specs.Prelude.{if◌then◌else◌, ℕ, zero, suc, ◌+◌, ◌*◌, ◌/◌, ◌%◌, List, [], ◌∷◌, length, get_or, leb}
use Rattle.std.proofs.lemmas.List.Edits.{sets}
use Rattle.register.specs.Words.{part, words_in, flat}
use Rattle.desk_spec.specs.Desk.{Place, place, Desk, desk, most_places, most_waiting, place_at}

-- in bytes, and in words
abbrev pub desk_length : ℕ
desk_length = 592

abbrev pub desk_words : ℕ
desk_words = 148

abbrev pub place_words : ℕ
place_words = 18

-- the first word of place i
abbrev pub place_start : ℕ → ℕ
place_start i = 4 + place_words * i

-- any words are some desk: a count above its limit reads as the limit
abbrev pub at_most : (limit n : ℕ) → ℕ
at_most limit n = if leb limit n then limit else n

module _ (W : List ℕ) where
  unfoldable pub place_in : ℕ → Place
  place_in i =
      place (get_or W (place_start i) 0) (part W (place_start i + 2) (at_most most_waiting (get_or W (place_start i + 1) 0)))

  -- n places from number i on
  unfoldable pub places_in : (n i : ℕ) → List Place
  places_in zero i = []
  places_in (suc n) i = place_in i ∷ places_in n (suc i)

  unfoldable pub desk_in : Desk
  desk_in = desk (places_in (at_most most_places (get_or W 0 0)) 0) (at_most most_places (get_or W 1 0))

unfoldable pub desk_of : List ℕ → Desk
desk_of bytes = desk_in (words_in bytes)

-- word f of a place
unfoldable pub place_word : Place → ℕ → ℕ
place_word p zero = p.caller
place_word p (suc zero) = length p.waiting
place_word p (suc (suc j)) = get_or p.waiting j 0

-- word k of a desk
unfoldable pub desk_word : Desk → ℕ → ℕ
desk_word d zero = length d.places
desk_word d (suc zero) = d.next
desk_word d (suc (suc zero)) = 0
desk_word d (suc (suc (suc zero))) = 0
desk_word d (suc (suc (suc (suc k)))) = place_word (place_at d.places (k / place_words)) (k % place_words)

-- n words from number k on
unfoldable pub words_from : Desk → (n k : ℕ) → List ℕ
words_from d zero k = []
words_from d (suc n) k = desk_word d k ∷ words_from d n (suc k)

-- the lent bytes with this desk in them; those past it stay
unfoldable pub with_desk : Desk → List ℕ → List ℕ
with_desk d bytes = sets bytes 0 (flat (words_from d desk_words 0))
