-- A desk stored in lent bytes is read back.
use Prim.Native.Nat.{ℕ, zero, suc, ◌+◌, ◌*◌, ◌/◌, ◌%◌, ◌^◌, ◌≤◌, ◌<◌}
use Rattle.std.specs.Prelude.{if◌then◌else◌, ◌≡◌, refl, List, [], ◌∷◌, ◌++◌, Bool, true, false, take, drop, leb}
use Rattle.std.proofs.Math.Path.{ap}
use Rattle.std.proofs.Common.{◌∙◌, length-append, length-drop, leb-true}
use native.Mathlib.Omega.{arith}
use Rattle.std.proofs.Math.Decide.{dec_lt}
use Rattle.std.proofs.Math.ListN.{length, get_or, length-take, get_or-append, get_or-eq_default}
use Rattle.std.proofs.lemmas.List.Edits.{sets, sets-eq}
use Rattle.std.proofs.Math.Seq.{ext_get_or, get_or-take, get_or-drop}
use Rattle.register.specs.Words.{part, flat, words_in}
use Rattle.register.specs.Buffers.{Below, length-flat, words-flat}
use Rattle.desk_spec.specs.Desk.{Place, place, Desk, desk, most_places, most_waiting, place_at}
use Rattle.desk_spec.specs.Bytes.{desk_length, desk_words, place_words, place_start, at_most, place_in, places_in, desk_in, desk_of, place_word, desk_word, words_from, with_desk}
use Rattle.desk_spec.specs.Places.{each_place}
use Rattle.desk_order.specs.Claims.{Limits}
use Rattle.desk_order.specs.Calls.{WordPlace, Words}

-- the desk's words, by number

length_from : (d : Desk) (n k : ℕ) → length (words_from d n k) ≡ n
unfolding words_from
length_from d zero k = refl
length_from d (suc n) k = ap suc (length_from d n (suc k))

word-from : (d : Desk) (n k j : ℕ) → j < n → get_or (words_from d n k) j 0 ≡ desk_word d (k + j)
unfolding words_from
word-from d zero k j l = absurd (omega arith)
word-from d (suc n) k zero l = let z : k + 0 ≡ k = omega arith in rw z
word-from d (suc n) k (suc j) l = let z : k + suc j ≡ suc k + j = omega arith in rw z (word-from d n (suc k) j (omega arith))

-- they are words

abbrev FewWaiting : Place → Type 0
FewWaiting p = length p.waiting ≤ most_waiting

place-word : (p : Place) → FewWaiting p → WordPlace p → (f : ℕ) → place_word p f < 2 ^ 32
unfolding place_word
place-word p h w zero = w.0
place-word p h w (suc zero) = omega arith
place-word p h w (suc (suc j)) = w.1 j

desk-word : (d : Desk) → Limits d → Words d → (k : ℕ) → desk_word d k < 2 ^ 32
unfolding desk_word
desk-word d h w zero = let f = h.places_fit in omega arith
desk-word d h w (suc zero) = let f = h.next_fits in omega arith
desk-word d h w (suc (suc zero)) = omega arith
desk-word d h w (suc (suc (suc zero))) = omega arith
desk-word d h w (suc (suc (suc (suc k)))) =
    place-word (place_at d.places (k / place_words)) (each_place FewWaiting d.places (k / place_words) h.waiting-fit (omega arith))
    (each_place WordPlace d.places (k / place_words) w (omega arith, λ i. omega arith)) (k % place_words)

words_below_lem : (d : Desk) (n : ℕ) → Limits d → Words d → Below (2 ^ 32) (words_from d n 0)
words_below_lem d n h w i =
    elim (dec_lt i n) [
      | yes l ↦ rw (word-from d n 0 i l) (desk-word d h w (0 + i))
      | no l ↦ let s = length_from d n 0 in rw (get_or-eq_default (words_from d n 0) 0 {n = i} (omega arith)) (omega arith)
    ]

-- read from any words that begin with them

at_most_lem : (limit n : ℕ) → n ≤ limit → at_most limit n ≡ n
at_most_lem limit n h = go (leb limit n) refl
  where
    go : (b : Bool) → leb limit n ≡ b → (if b then limit else n) ≡ n
    go true e = let l = leb-true limit n e in omega arith
    go false e = refl

module _ (W : List ℕ) (d : Desk) (h : Limits d) (long : desk_words ≤ length W) (is : (k : ℕ) → k < desk_words → get_or W k 0 ≡ desk_word d k) where
  field_at : (i f : ℕ) → i < most_places → f < place_words → get_or W (place_start i + f) 0 ≡ place_word (place_at d.places i) f
  unfolding desk_word
  field_at i f l m =
      let z : place_start i + f ≡ suc (suc (suc (suc (place_words * i + f)))) = omega arith in
      let q : (place_words * i + f) / place_words ≡ i = omega arith in
      let r : (place_words * i + f) % place_words ≡ f = omega arith in
      let e : desk_word d (suc (suc (suc (suc (place_words * i + f))))) ≡ place_word (place_at d.places i) f = rw (q, r) in
      is (place_start i + f) (omega arith) ∙ ap (desk_word d) z ∙ e

  waiting-at
      : (i : ℕ) → i < most_places → (n : ℕ) → n ≡ length (place_at d.places i).waiting → n ≤ most_waiting
      → part W (place_start i + 2) n ≡ (place_at d.places i).waiting
  unfolding part place_word
  waiting-at i l n e m =
      let o = place_start i + 2 in
      let s : length (take n (drop o W)) ≡ n = length-take n (drop o W) ∙ rw (length-drop o W) (omega arith) in
      ext_get_or 0 (take n (drop o W)) (place_at d.places i).waiting (s ∙ e)
      (λ j k.
      let z : o + j ≡ place_start i + suc (suc j) = omega arith in
      get_or-take n (drop o W) j 0 (omega arith) ∙ get_or-drop o W j 0 ∙ ap (λ t. get_or W t 0) z ∙ field_at i (suc (suc j)) l (omega arith))

  place_at_lem : (i : ℕ) → i < most_places → place_in W i ≡ place_at d.places i
  unfolding place_in place_word
  place_at_lem i l =
      let p = place_at d.places i in
      let f : length p.waiting ≤ most_waiting = each_place FewWaiting d.places i h.waiting-fit (omega arith) in
      let z : place_start i ≡ place_start i + 0 = omega arith in
      let c : get_or W (place_start i) 0 ≡ p.caller = ap (λ t. get_or W t 0) z ∙ field_at i 0 l (omega arith) in
      let n : at_most most_waiting (get_or W (place_start i + 1) 0) ≡ length p.waiting =
      ap (at_most most_waiting) (field_at i 1 l (omega arith)) ∙ at_most_lem most_waiting (length p.waiting) f in
      let w : part W (place_start i + 2) (at_most most_waiting (get_or W (place_start i + 1) 0)) ≡ p.waiting =
      waiting-at i l (at_most most_waiting (get_or W (place_start i + 1) 0)) n (omega (arith, n, f)) in
      ap (λ t. place t (part W (place_start i + 2) (at_most most_waiting (get_or W (place_start i + 1) 0)))) c ∙ ap (place p.caller) w

places_at : (W : List ℕ) (qs : List Place) (i : ℕ) → ((j : ℕ) → j < length qs → place_in W (i + j) ≡ place_at qs j) → places_in W (length qs) i ≡ qs
unfolding places_in place_at
places_at W [] i at = refl
places_at W (q ∷ qs) i at =
    let z : i + 0 ≡ i = omega arith in
    let e : place_in W i ≡ q = rw z at (at 0 (omega arith)) in
    rw e
    (ap (λ l. q ∷ l)
    (places_at W qs (suc i) (λ j l. let s : suc i + j ≡ i + suc j = omega arith in ap (place_in W) s ∙ at (suc j) (omega arith))))

desk_in_lem
    : (W : List ℕ) (d : Desk) → Limits d → desk_words ≤ length W → ((k : ℕ) → k < desk_words → get_or W k 0 ≡ desk_word d k) → desk_in W ≡ d
unfolding desk_in desk_word
desk_in_lem W d h long is =
    let f = h.places_fit in
    let n : at_most most_places (get_or W 0 0) ≡ length d.places =
    ap (at_most most_places) (is 0 (omega arith)) ∙ at_most_lem most_places (length d.places) f in
    let m : at_most most_places (get_or W 1 0) ≡ d.next =
    ap (at_most most_places) (is 1 (omega arith)) ∙ at_most_lem most_places d.next h.next_fits in
    let p : places_in W (length d.places) 0 ≡ d.places =
    places_at W d.places 0 (λ j l. let z : 0 + j ≡ j = omega arith in rw z (place_at_lem W d h long is j (omega arith))) in
    ap (λ t. desk (places_in W t 0) (at_most most_places (get_or W 1 0))) n
    ∙ ap (λ t. desk (places_in W (length d.places) 0) t) m
    ∙ ap (λ t. desk t d.next) p

words-with
    : (ws bytes : List ℕ) → Below (2 ^ 32) ws → 4 * length ws ≤ length bytes
    → (rest : List ℕ) × (words_in (sets bytes 0 (flat ws)) ≡ ws ++ rest)
words-with ws bytes b h =
    let n = length-flat ws in
    let left = drop (0 + length (flat ws)) bytes in
    (words_in left, ap words_in (sets-eq (flat ws) bytes 0 (omega arith)) ∙ words-flat ws left b)

pub reads_back : (d : Desk) (bytes : List ℕ) → Limits d → Words d → desk_length ≤ length bytes → desk_of (with_desk d bytes) ≡ d
unfolding desk_of with_desk
reads_back d bytes h w l =
    let ws = words_from d desk_words 0 in
    let n : length ws ≡ desk_words = length_from d desk_words 0 in
    let (rest, e) = words-with ws bytes (words_below_lem d desk_words h w) (omega arith) in
    ap desk_in e
    ∙ desk_in_lem (ws ++ rest) d h (rw (length-append ws rest) (omega arith))
    (λ k m. get_or-append ws rest 0 k (omega arith) ∙ word-from d desk_words 0 k m ∙ (let z : 0 + k ≡ k = omega arith in ap (desk_word d) z))
