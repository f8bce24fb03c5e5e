-- A desk's bytes as they are copied and written, a word at a time.
use Rattle.std.proofs.Common.{◌≡◌, ℕ, zero, suc, ◌+◌, ◌*◌, ◌≤◌, List, [], ◌∷◌, ◌++◌, length, get_or, take, sym, refl, ap, ◌∙◌, add-one, arith, get_or-take, take-take}
use lib.Seq.{sets}
use Rattle.window.specs.Word.{set_word_in}
use Rattle.register.specs.Words.{part, words_in, flat, words_take}
use Rattle.register.specs.Append.Sets.{push_laid}
use Rattle.desk_spec.specs.Desk.{Desk}
use Rattle.desk_spec.specs.Bytes.{at_most, place_start, place_in, places_in, desk_in, desk_of, desk_word, words_from, with_desk}
use Rattle.desk.proofs.places.Reading.{within_limit}

-- a desk is in its first 148 words

part_of_take : (l : List ℕ) (n o m : ℕ) → o + m ≤ n → part (take n l) o m ≡ part l o m
unfolding part
part_of_take l n zero m h = take-take m n l (omega arith)
part_of_take l zero (suc o) m h = absurd (omega arith)
part_of_take [] (suc n) (suc o) m h = refl
part_of_take (v ∷ l) (suc n) (suc o) m h = part_of_take l n o m (omega arith)

place_of-take : (W : List ℕ) (n i : ℕ) → place_start (suc i) ≤ n → place_in (take n W) i ≡ place_in W i
unfolding place_in
place_of-take W n i h =
    let most = within_limit 16 (get_or W (place_start i + 1) 0) in
    rw (
      get_or-take n W (place_start i) 0 (omega arith),
      get_or-take n W (place_start i + 1) 0 (omega arith),
      part_of_take W n (place_start i + 2) (at_most 16 (get_or W (place_start i + 1) 0)) (omega arith),
    )

places_of_take : (W : List ℕ) (n m i : ℕ) → place_start (i + m) ≤ n → places_in (take n W) m i ≡ places_in W m i
unfolding places_in
places_of_take W n zero i h = refl
places_of_take W n (suc m) i h = rw (place_of-take W n i (omega arith), places_of_take W n m (suc i) (omega arith))

desk_of-take : (W : List ℕ) (n : ℕ) → 148 ≤ n → desk_in (take n W) ≡ desk_in W
unfolding desk_in
desk_of-take W n h =
    let most = within_limit 8 (get_or W 0 0) in
    rw (
      get_or-take n W 0 0 (omega arith),
      get_or-take n W 1 0 (omega arith),
      places_of_take W n (at_most 8 (get_or W 0 0)) 0 (omega arith),
    )

module _ (bytes : List ℕ) {copy : List ℕ} (e : copy ≡ take 592 bytes) where
  pub copy_desk : desk_of copy ≡ desk_of bytes
  unfolding desk_of
  copy_desk = ap (λ l. desk_in (words_in l)) e ∙ ap desk_in (words_take 148 bytes) ∙ desk_of-take (words_in bytes) 148 (omega arith)

-- words written one after another

words_more : (d : Desk) (n k : ℕ) → words_from d (suc n) k ≡ words_from d n k ++ (desk_word d (k + n) ∷ [])
unfolding words_from
words_more d zero k = let e : k + 0 ≡ k = omega arith in rw e
words_more d (suc n) k = let e : k + suc n ≡ suc k + n = omega arith in rw e (ap (λ r. desk_word d k ∷ r) (words_more d n (suc k)))

length-words-from : (d : Desk) (n k : ℕ) → length (words_from d n k) ≡ n
unfolding words_from
length-words-from d zero k = refl
length-words-from d (suc n) k = ap suc (length-words-from d n (suc k))

module _ (d : Desk) (bytes : List ℕ) where
  -- the bytes with the first k words of the desk in them
  unfoldable pub written : ℕ → List ℕ
  written k = sets bytes 0 (flat (words_from d k 0))

  pub none_written : bytes ≡ written 0
  unfolding written words_from flat
  none_written = refl

  pub one_written : (k : ℕ) {v : ℕ} → v ≡ desk_word d k → set_word_in (written k) (4 * k) v ≡ written (k + 1)
  unfolding written
  one_written k {v} e =
      let at : 4 * k ≡ 0 + 4 * length (words_from d k 0) = omega (arith, length-words-from d k 0) in
      let word : v ≡ desk_word d (0 + k) = e ∙ ap (desk_word d) (omega arith) in
      ap (λ o. set_word_in (written k) o v) at
      ∙ push_laid bytes 0 (words_from d k 0) v
      ∙ ap (λ ws. sets bytes 0 (flat ws))
      (ap (λ u. words_from d k 0 ++ (u ∷ [])) word ∙ sym (words_more d k 0) ∙ ap (λ n. words_from d n 0) (sym (add-one k)))

  pub all-written : written 148 ≡ with_desk d bytes
  unfolding written with_desk
  all-written = refl
