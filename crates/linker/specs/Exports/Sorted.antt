-- Exports that wait, sorted by parts in free bytes: a run of them from number o on, and two runs while they are merged.
use Rattle.std.specs.declared.cmp.Ordering.{Ordering}
use Rattle.std.specs.declared.cmp.Ordering.TheVariants.{Less, Equal, Greater}
use Rattle.std.specs.Prelude.{◌≡◌, ℕ, suc, ◌+◌, ◌-◌, ◌*◌, ◌^◌, ◌<◌, ◌≤◌, true, List, [], ◌∷◌, ◌++◌, length, take, drop, slice_index, slice_set, refl}
use Rattle.std.proofs.Math.Path.{sym, ap, subst}
use Rattle.std.proofs.Common.{◌∙◌, append_assoc, take-add, drop-drop, drop-set-lt, get_or-take, get_or-drop}
use native.Mathlib.Omega.{arith}
use Rattle.std.proofs.Math.ListN.{length-append, length-drop}
use Rattle.std.proofs.lemmas.List.Edits.{sets}
use Rattle.std.proofs.Math.Seq.{length-sets, length-take-le, take_all, drop_at, take-take}
use Rattle.std.proofs.lemmas.List.{take-set-le, drop-set-add}
use Rattle.window.specs.Name.{order_of}
use Rattle.register.specs.Words.{part, flat, words_in, words_take, words-drop}
use Rattle.register.specs.Buffers.{Below, length-flat}
use Rattle.register.specs.Module.{Export, ascending}
use Rattle.register.specs.Order.{name_in, tail_ascends}
use Rattle.register.specs.Append.Sets.{flat_append, words_of}
use Rattle.register.specs.Append.Laid.{part_sets, below_append, below_one}
use Rattle.linker.specs.Exports.Waiting.{Waiting, name_for, export_for, exports_for, waiting_words, length_exports, length-bytes, place_of, name_of, more-words, more_exports, below_back}
use Rattle.linker.specs.Exports.Puts.{puts, puts_ascend, puts_none, merge_left, merge_right, merge_same, merge_ordered}

-- a part that a run of stores does not reach

part_before : (l : List ℕ) (i : ℕ) (vs : List ℕ) (o n : ℕ) → o + n ≤ i → part (sets l i vs) o n ≡ part l o n
unfolding part
part_before l i [] o n h = refl
part_before l i (v ∷ vs) o n h =
    let e : i ≡ o + (i - o) = omega arith in
    part_before (slice_set l i v) (suc i) vs o n (omega arith)
    ∙ ap (λ j. take n (drop o (slice_set l j v))) e ∙ ap (take n) (drop-set-add o l (i - o) v) ∙ take-set-le n (drop o l) (i - o) v (omega arith)

part-after : (l : List ℕ) (i : ℕ) (vs : List ℕ) (o n : ℕ) → i + length vs ≤ o → part (sets l i vs) o n ≡ part l o n
unfolding part
part-after l i [] o n h = refl
part-after l i (v ∷ vs) o n h = part-after (slice_set l i v) (suc i) vs o n (omega arith) ∙ ap (take n) (drop-set-lt o l i v (omega arith))

-- a list that is not empty has a first
first_of : {A : Type 0} (xs : List A) → 0 < length xs → (x : A) × (ys : List A) × (xs ≡ x ∷ ys)
first_of [] h = absurd (omega arith)
first_of (x ∷ xs) h = (x, xs, refl)

none_of : {A : Type 0} (xs : List A) → length xs ≡ 0 → xs ≡ []
none_of [] h = refl
none_of (x ∷ xs) h = absurd (omega arith)

module _ (at : ℕ) (w : List ℕ) where
  -- the bytes have these from number o on
  pub record Laid (o : ℕ) (xs : List Waiting) (bytes : List ℕ) : Type 0 where
    pub are : part bytes (8 * o) (8 * length xs) ≡ flat (waiting_words at w xs)
    pub small : Below (2 ^ 32) (waiting_words at w xs)
    pub inside : 8 * (o + length xs) ≤ length bytes

  pub laid_none : (o : ℕ) (bytes : List ℕ) → 8 * o ≤ length bytes → Laid o [] bytes
  unfolding part flat waiting_words
  laid_none o bytes h = record { are = refl; small = λ k. omega arith; inside = omega arith }

  -- word k of a run
  pub laid_word
      : {o : ℕ} {xs : List Waiting} {bytes : List ℕ} → Laid o xs bytes → (k : ℕ) → k < 2 * length xs
      → slice_index (words_in bytes) (2 * o + k) ≡ slice_index (waiting_words at w xs) k
  unfolding part
  laid_word {o} {xs} {bytes} h k l =
      let e₁ : 8 * o ≡ 4 * (2 * o) = omega arith in
      let e₂ : 8 * length xs ≡ 4 * (2 * length xs) = omega arith in
      let p : take (4 * (2 * length xs)) (drop (4 * (2 * o)) bytes) ≡ flat (waiting_words at w xs) =
      ap (λ n. take n (drop (4 * (2 * o)) bytes)) (sym e₂) ∙ ap (λ n. take (8 * length xs) (drop n bytes)) (sym e₁) ∙ h.are in
      let ws : take (2 * length xs) (drop (2 * o) (words_in bytes)) ≡ waiting_words at w xs =
      ap (take (2 * length xs)) (sym (words-drop (2 * o) bytes)) ∙ sym (words_take (2 * length xs) (drop (4 * (2 * o)) bytes))
      ∙ ap words_in p ∙ words_of (waiting_words at w xs) h.small in
      sym (get_or-drop (2 * o) (words_in bytes) k 0) ∙ sym (get_or-take (2 * length xs) (drop (2 * o) (words_in bytes)) k 0 l)
      ∙ ap (λ t. slice_index t k) ws

  -- where the name of number k stands
  pub laid-place
      : {xs : List Waiting} {bytes : List ℕ} (o k p : ℕ) → Laid o xs bytes → k < length xs → p ≡ slice_index (words_in bytes) (2 * (o + k))
      → name_for at w p ≡ name_in (exports_for at w xs) k
  laid-place {xs} {bytes} o k p h l e =
      let z : 2 * (o + k) ≡ 2 * o + 2 * k = omega arith in
      ap (name_for at w) (e ∙ ap (λ i. slice_index (words_in bytes) i) z ∙ laid_word h (2 * k) (omega arith) ∙ place_of at w xs k l)
      ∙ sym (name_of at w xs k l)

  -- the first of a run, as the code has read it
  pub laid-first
      : {x : Waiting} {xs : List Waiting} {bytes : List ℕ} (o p a : ℕ) → Laid o (x ∷ xs) bytes → p ≡ slice_index (words_in bytes) (2 * o)
      → a ≡ slice_index (words_in bytes) (2 * o + 1) → record { place = p; address = a } ≡ x
  unfolding waiting_words
  laid-first {x} {xs} {bytes} o p a h ep ea =
      let z : 2 * o ≡ 2 * o + 0 = omega arith in
      let q : p ≡ x.place = ep ∙ ap (λ i. slice_index (words_in bytes) i) z ∙ laid_word h 0 (omega arith) in
      let b : a ≡ x.address = ea ∙ laid_word h 1 (omega arith) in
      rw (q, b)

  -- runs one after the other

  module _ (o : ℕ) (xs ys : List Waiting) (bytes : List ℕ) where
    abbrev from : List ℕ
    from = drop (8 * o) bytes

    next-part : drop (8 * length xs) from ≡ drop (8 * (o + length xs)) bytes
    next-part =
        let z : 8 * o + 8 * length xs ≡ 8 * (o + length xs) = omega arith in
        drop-drop (8 * length xs) (8 * o) bytes ∙ ap (λ n. drop n bytes) z

    both_parts : take (8 * length (xs ++ ys)) from ≡ take (8 * length xs) from ++ take (8 * length ys) (drop (8 * (o + length xs)) bytes)
    both_parts =
        let z : 8 * length (xs ++ ys) ≡ 8 * length xs + 8 * length ys = omega (arith, length-append xs ys) in
        ap (λ n. take n from) z ∙ take-add (8 * length xs) (8 * length ys) from
        ∙ ap (λ t. take (8 * length xs) from ++ take (8 * length ys) t) next-part

    both_words : flat (waiting_words at w (xs ++ ys)) ≡ flat (waiting_words at w xs) ++ flat (waiting_words at w ys)
    both_words = ap flat (more-words at w xs ys) ∙ flat_append (waiting_words at w xs) (waiting_words at w ys)

    pub laid-join : Laid o xs bytes → Laid (o + length xs) ys bytes → Laid o (xs ++ ys) bytes
    unfolding part
    laid-join h g =
        record {
          are = both_parts ∙ rw (h.are, g.are) (sym both_words);
          small = rw (more-words at w xs ys) (below_append (waiting_words at w xs) (waiting_words at w ys) (2 ^ 32) h.small g.small);
          inside = omega (arith, g.inside, length-append xs ys);
        }

    module _ (h : Laid o (xs ++ ys) bytes) where
      long : length (take (8 * length xs) from) ≡ 8 * length xs
      long = length-take-le (8 * length xs) from (omega (arith, h.inside, length-append xs ys, length-drop (8 * o) bytes))

      whole : take (8 * length xs) from ++ take (8 * length ys) (drop (8 * (o + length xs)) bytes) ≡ flat (waiting_words at w xs) ++ flat (waiting_words at w ys)
      unfolding part
      whole = sym both_parts ∙ h.are ∙ both_words

      small_both : Below (2 ^ 32) (waiting_words at w xs ++ waiting_words at w ys)
      small_both = subst (Below (2 ^ 32)) (more-words at w xs ys) h.small

      pub laid-back : Laid (o + length xs) ys bytes
      unfolding part
      laid-back =
          record {
            are =
                sym (drop_at (take (8 * length xs) from) (take (8 * length ys) (drop (8 * (o + length xs)) bytes)) (8 * length xs) long)
                ∙ ap (drop (8 * length xs)) whole
                ∙ drop_at (flat (waiting_words at w xs)) (flat (waiting_words at w ys)) (8 * length xs) (length-bytes at w xs);
            small = below_back (waiting_words at w xs) (waiting_words at w ys) (2 ^ 32) small_both;
            inside = omega (arith, h.inside, length-append xs ys);
          }

  pub laid-rest : {x : Waiting} {xs : List Waiting} {bytes : List ℕ} (o : ℕ) → Laid o (x ∷ xs) bytes → Laid (o + 1) xs bytes
  laid-rest {x} {xs} {bytes} o h = laid-back o (x ∷ []) xs bytes h

  -- stores

  module _ {o : ℕ} {xs : List Waiting} {bytes : List ℕ} (h : Laid o xs bytes) (i : ℕ) (vs : List ℕ) where
    kept_long : 8 * (o + length xs) ≤ length (sets bytes i vs)
    kept_long = omega (arith, h.inside, length-sets bytes i vs)

    pub laid_below : 8 * (o + length xs) ≤ i → Laid o xs (sets bytes i vs)
    laid_below l =
        record { are = part_before bytes i vs (8 * o) (8 * length xs) (omega arith) ∙ h.are; small = h.small; inside = kept_long }

    pub laid_above : i + length vs ≤ 8 * o → Laid o xs (sets bytes i vs)
    laid_above l = record { are = part-after bytes i vs (8 * o) (8 * length xs) l ∙ h.are; small = h.small; inside = kept_long }

  pub laid-new
      : (o : ℕ) (xs : List Waiting) (bytes : List ℕ) → Below (2 ^ 32) (waiting_words at w xs) → 8 * (o + length xs) ≤ length bytes
      → Laid o xs (sets bytes (8 * o) (flat (waiting_words at w xs)))
  unfolding part
  laid-new o xs bytes s l =
      let ws = flat (waiting_words at w xs) in
      let z : 8 * o + 0 ≡ 8 * o = omega arith in
      let n : length ws ≡ 8 * length xs = length-bytes at w xs in
      record {
        are =
            ap (λ j. take (8 * length xs) (drop j (sets bytes (8 * o) ws))) (sym z)
            ∙ part_sets bytes (8 * o) ws 0 (8 * length xs) (omega (arith, n)) (omega (arith, n)) ∙ take_all (8 * length xs) ws (omega (arith, n));
        small = s;
        inside = omega (arith, length-sets bytes (8 * o) ws);
      }

  -- a run copied
  pub laid_copy
      : {o : ℕ} {xs : List Waiting} {bytes bytes' : List ℕ} (to n : ℕ) → Laid o xs bytes → n ≡ 8 * length xs → 8 * (to + length xs) ≤ length bytes
      → bytes' ≡ sets bytes (8 * to) (part bytes (8 * o) n) → Laid to xs bytes'
  laid_copy {o} {xs} {bytes} to n h en l e =
      subst (Laid to xs) (sym (e ∙ ap (sets bytes (8 * to)) (ap (part bytes (8 * o)) en ∙ h.are))) (laid-new to xs bytes h.small l)

  -- one export laid
  pub Laid-one
      : (o p a : ℕ) (bytes : List ℕ) → p < 2 ^ 32 → a < 2 ^ 32 → 8 * (o + 1) ≤ length bytes
      → Laid o (record { place = p; address = a } ∷ []) (sets bytes (8 * o) (flat (p ∷ a ∷ [])))
  unfolding waiting_words
  Laid-one o p a bytes hp ha l =
      laid-new o (record { place = p; address = a } ∷ []) bytes (below_append (p ∷ []) (a ∷ []) (2 ^ 32) (below_one p hp) (below_one a ha)) l

  -- so many exports in name order, at the start of the bytes
  pub record Sorted (exports : List Export) (count : ℕ) (bytes : List ℕ) : Type 0 where
    pub waiting : List Waiting
    pub are : exports_for at w waiting ≡ exports
    pub counted : length waiting ≡ count
    pub laid : Laid 0 waiting bytes
    pub ascends : ascending exports ≡ true

  pub sorted_taken : {exports : List Export} {count : ℕ} {bytes : List ℕ} → Sorted exports count bytes → Sorted exports count (take (8 * count) bytes)
  unfolding part
  sorted_taken {exports} {count} {bytes} h =
      let l : 8 * length h.waiting ≡ 8 * count = ap (λ t. 8 * t) h.counted in
      let i = h.laid.inside in
      record {
        waiting = h.waiting;
        are = h.are;
        counted = h.counted;
        laid =
            record {
              are = take-take (8 * length h.waiting) (8 * count) bytes (omega arith) ∙ h.laid.are;
              small = h.laid.small;
              inside = omega (arith, length-take-le (8 * count) bytes (omega arith));
            };
        ascends = h.ascends;
      }

  -- two runs while they are merged: the first k are done, then come those of the right run from number j on up to n, and the rest of
  -- the left run from number i on up to `end`
  pub record Merging (all : List Export) (n end i j k : ℕ) (bytes : List ℕ) : Type 0 where
    pub done : List Waiting
    pub left : List Waiting
    pub right : List Waiting
    pub are : exports_for at w done ++ puts (exports_for at w left) (exports_for at w right) ≡ all
    pub done-count : length done ≡ k
    pub left-count : length left ≡ end - i
    pub right_count : length right ≡ n - j
    pub done-laid : Laid 0 done bytes
    pub left_laid : Laid i left bytes
    pub right_laid : Laid j right bytes
    pub left_ascends : ascending (exports_for at w left) ≡ true
    pub right_ascends : ascending (exports_for at w right) ≡ true

  done_more : (done : List Waiting) (x : Waiting) (rest : List Export) → exports_for at w done ++ (export_for at w x ∷ rest) ≡ exports_for at w (done ++ (x ∷ [])) ++ rest
  unfolding exports_for
  done_more done x rest =
      sym (append_assoc (exports_for at w done) (export_for at w x ∷ []) rest) ∙ ap (λ t. t ++ rest) (sym (more_exports at w done (x ∷ [])))

  -- one more is done: that which was laid as number k
  module _ (done : List Waiting) (x : Waiting) (k p a : ℕ) (bytes : List ℕ) {bytes' : List ℕ} (ed : length done ≡ k) (d : Laid 0 done bytes)
      (ex : record { place = p; address = a } ≡ x) (hp : p < 2 ^ 32) (ha : a < 2 ^ 32) (room : 8 * (k + 1) ≤ length bytes)
      (e : bytes' ≡ sets bytes (8 * k) (flat (p ∷ a ∷ []))) where
    done_next : Laid 0 (done ++ (x ∷ [])) bytes'
    done_next =
        let z : k ≡ 0 + length done = omega (arith, ed) in
        laid-join 0 done (x ∷ []) bytes'
        (subst (Laid 0 done) (sym e) (laid_below d (8 * k) (flat (p ∷ a ∷ [])) (omega (arith, ed))))
        (subst (λ o. Laid o (x ∷ []) bytes') z
        (subst (λ y. Laid k (y ∷ []) bytes') ex (subst (Laid k (record { place = p; address = a } ∷ [])) (sym e) (Laid-one k p a bytes hp ha room))))

    done-length : length (done ++ (x ∷ [])) ≡ k + 1
    done-length = length-append done (x ∷ []) ∙ ap (λ n. n + 1) ed

    others : {o : ℕ} {xs : List Waiting} → Laid o xs bytes → k + 1 ≤ o → Laid o xs bytes'
    others {o} {xs} h l = subst (Laid o xs) (sym e) (laid_above h (8 * k) (flat (p ∷ a ∷ [])) (omega (arith, length-flat (p ∷ a ∷ []))))

  module _ {all : List Export} {n end i j k : ℕ} {bytes : List ℕ} (m : Merging all n end i j k bytes) (li : i < end) (lj : j < n) where
    l₀ : (x : Waiting) × (xs : List Waiting) × (m.left ≡ x ∷ xs)
    l₀ = first_of m.left (omega (arith, m.left-count))

    r₀ : (y : Waiting) × (ys : List Waiting) × (m.right ≡ y ∷ ys)
    r₀ = first_of m.right (omega (arith, m.right_count))

    abbrev X : Waiting
    X = l₀.0

    abbrev XS : List Waiting
    XS = l₀.1

    abbrev Y : Waiting
    Y = r₀.0

    abbrev YS : List Waiting
    YS = r₀.1

    left_is : Laid i (X ∷ XS) bytes
    left_is = subst (λ t. Laid i t bytes) l₀.2 m.left_laid

    right_is : Laid j (Y ∷ YS) bytes
    right_is = subst (λ t. Laid j t bytes) r₀.2 m.right_laid

    left_up : ascending (export_for at w X ∷ exports_for at w XS) ≡ true
    unfolding exports_for
    left_up = subst (λ t. ascending (exports_for at w t) ≡ true) l₀.2 m.left_ascends

    right_up : ascending (export_for at w Y ∷ exports_for at w YS) ≡ true
    unfolding exports_for
    right_up = subst (λ t. ascending (exports_for at w t) ≡ true) r₀.2 m.right_ascends

    all_is : exports_for at w m.done ++ puts (export_for at w X ∷ exports_for at w XS) (export_for at w Y ∷ exports_for at w YS) ≡ all
    unfolding exports_for
    all_is =
        ap (λ t. exports_for at w m.done ++ puts (exports_for at w t) (exports_for at w (Y ∷ YS))) (sym l₀.2)
        ∙ ap (λ t. exports_for at w m.done ++ puts (exports_for at w m.left) (exports_for at w t)) (sym r₀.2) ∙ m.are

    left_less : length XS ≡ end - (i + 1)
    left_less = let e = ap length l₀.2 in omega (arith, m.left-count)

    right_less : length YS ≡ n - (j + 1)
    right_less = let e = ap length r₀.2 in omega (arith, m.right_count)

    -- the names of the two first ones, compared where they stand
    module _ (x y : ℕ) {o : Ordering} (ex : x ≡ slice_index (words_in bytes) (2 * i)) (ey : y ≡ slice_index (words_in bytes) (2 * j))
        (eo : o ≡ order_of (name_for at w x) (name_for at w y)) where
      order_is : order_of (name_for at w X.place) (name_for at w Y.place) ≡ o
      order_is =
          let px : x ≡ X.place = ap (λ t. t.place) (laid-first i x (slice_index (words_in bytes) (2 * i + 1)) left_is ex refl) in
          let py : y ≡ Y.place = ap (λ t. t.place) (laid-first j y (slice_index (words_in bytes) (2 * j + 1)) right_is ey refl) in
          ap (λ t. order_of (name_for at w t) (name_for at w Y.place)) (sym px) ∙ ap (λ t. order_of (name_for at w x) (name_for at w t)) (sym py) ∙ sym eo

      -- of one name only the right one stays
      pub merging_same : o ≡ Equal → Merging all n end (i + 1) j k bytes
      unfolding exports_for
      merging_same f =
          record {
            done = m.done;
            left = XS;
            right = Y ∷ YS;
            are =
                ap (λ t. exports_for at w m.done ++ t)
                (sym (merge_same (export_for at w X) (export_for at w Y) (exports_for at w XS) (exports_for at w YS) (order_is ∙ f) left_up))
                ∙ all_is;
            done-count = m.done-count;
            left-count = left_less;
            right_count = ap length (sym r₀.2) ∙ m.right_count;
            done-laid = m.done-laid;
            left_laid = laid-rest i left_is;
            right_laid = right_is;
            left_ascends = tail_ascends (export_for at w X) (exports_for at w XS) left_up;
            right_ascends = right_up;
          }

      module _ (a : ℕ) {bytes' : List ℕ} (ha : a < 2 ^ 32) where
        -- the left one is before
        pub merging_left
            : x < 2 ^ 32 → k + 1 ≤ j → j ≤ i → a ≡ slice_index (words_in bytes) (2 * i + 1) → o ≡ Less
            → bytes' ≡ sets bytes (8 * k) (flat (x ∷ a ∷ [])) → Merging all n end (i + 1) j (k + 1) bytes'
        unfolding exports_for
        merging_left hx lk ji ea f e =
            let xa = laid-first i x a left_is ex ea in
            let room : 8 * (k + 1) ≤ length bytes = omega (arith, right_is.inside) in
            record {
              done = m.done ++ (X ∷ []);
              left = XS;
              right = Y ∷ YS;
              are =
                  sym (done_more m.done X (puts (exports_for at w XS) (exports_for at w (Y ∷ YS))))
                  ∙ ap (λ t. exports_for at w m.done ++ t)
                  (sym (merge_left (export_for at w X) (export_for at w Y) (exports_for at w XS) (exports_for at w YS) (order_is ∙ f) right_up))
                  ∙ all_is;
              done-count = done-length m.done X k x a bytes m.done-count m.done-laid xa hx ha room e;
              left-count = left_less;
              right_count = ap length (sym r₀.2) ∙ m.right_count;
              done-laid = done_next m.done X k x a bytes m.done-count m.done-laid xa hx ha room e;
              left_laid = others m.done X k x a bytes m.done-count m.done-laid xa hx ha room e (laid-rest i left_is) (omega arith);
              right_laid = others m.done X k x a bytes m.done-count m.done-laid xa hx ha room e right_is lk;
              left_ascends = tail_ascends (export_for at w X) (exports_for at w XS) left_up;
              right_ascends = right_up;
            }

        -- the right one is
        pub merging_right
            : y < 2 ^ 32 → k ≤ j → j + 1 ≤ i → a ≡ slice_index (words_in bytes) (2 * j + 1) → o ≡ Greater
            → bytes' ≡ sets bytes (8 * k) (flat (y ∷ a ∷ [])) → Merging all n end i (j + 1) (k + 1) bytes'
        unfolding exports_for
        merging_right hy lk ji ea f e =
            let ya = laid-first j y a right_is ey ea in
            let room : 8 * (k + 1) ≤ length bytes = omega (arith, right_is.inside) in
            record {
              done = m.done ++ (Y ∷ []);
              left = X ∷ XS;
              right = YS;
              are =
                  sym (done_more m.done Y (puts (exports_for at w (X ∷ XS)) (exports_for at w YS)))
                  ∙ ap (λ t. exports_for at w m.done ++ t)
                  (sym (merge_right (export_for at w X) (export_for at w Y) (exports_for at w XS) (exports_for at w YS) (order_is ∙ f) right_up))
                  ∙ all_is;
              done-count = done-length m.done Y k y a bytes m.done-count m.done-laid ya hy ha room e;
              left-count = ap length (sym l₀.2) ∙ m.left-count;
              right_count = right_less;
              done-laid = done_next m.done Y k y a bytes m.done-count m.done-laid ya hy ha room e;
              left_laid = others m.done Y k y a bytes m.done-count m.done-laid ya hy ha room e left_is (omega arith);
              right_laid = others m.done Y k y a bytes m.done-count m.done-laid ya hy ha room e (laid-rest j right_is) (omega arith);
              left_ascends = left_up;
              right_ascends = tail_ascends (export_for at w Y) (exports_for at w YS) right_up;
            }

  -- one run is used up: the rest of the other follows what is done

  followed
      : {all : List Export} (done rest : List Waiting) (k c : ℕ) (bytes : List ℕ) → exports_for at w done ++ exports_for at w rest ≡ all
      → length done ≡ k → length rest ≡ c → Laid 0 done bytes → Laid k rest bytes → ascending all ≡ true → Sorted all (k + c) bytes
  followed done rest k c bytes e ed er d r up =
      let z : k ≡ 0 + length done = omega (arith, ed) in
      record {
        waiting = done ++ rest;
        are = more_exports at w done rest ∙ e;
        counted = length-append done rest ∙ ap (λ t. t + length rest) ed ∙ ap (λ t. k + t) er;
        laid = laid-join 0 done rest bytes d (subst (λ o. Laid o rest bytes) z r);
        ascends = up;
      }

  module _ {all : List Export} {n end i j k : ℕ} {bytes : List ℕ} (m : Merging all n end i j k bytes) (up : ascending all ≡ true) where
    right_none : n ≤ j → exports_for at w m.done ++ exports_for at w m.left ≡ all
    unfolding exports_for puts
    right_none l =
        let z : m.right ≡ [] = none_of m.right (omega (arith, m.right_count)) in
        subst (λ t. exports_for at w m.done ++ puts (exports_for at w m.left) (exports_for at w t) ≡ all) z m.are

    left_none : end ≤ i → exports_for at w m.done ++ exports_for at w m.right ≡ all
    unfolding exports_for
    left_none l =
        let z : m.left ≡ [] = none_of m.left (omega (arith, m.left-count)) in
        ap (λ t. exports_for at w m.done ++ t) (sym (puts_none (exports_for at w m.right) m.right_ascends))
        ∙ subst (λ t. exports_for at w m.done ++ puts (exports_for at w t) (exports_for at w m.right) ≡ all) z m.are

    pub merged_left
        : {bytes' : List ℕ} → n ≤ j → k ≤ i → bytes' ≡ sets bytes (8 * k) (part bytes (8 * i) (8 * (end - i))) → Sorted all (k + (end - i)) bytes'
    merged_left l lk e =
        followed m.done m.left k (end - i) _ (right_none l) m.done-count m.left-count
        (subst (Laid 0 m.done) (sym e) (laid_below m.done-laid (8 * k) (part bytes (8 * i) (8 * (end - i))) (omega (arith, m.done-count))))
        (laid_copy k (8 * (end - i)) m.left_laid (ap (λ t. 8 * t) (sym m.left-count)) (omega (arith, m.left_laid.inside)) e) up

    pub merged_right
        : {bytes' : List ℕ} → end ≤ i → k ≤ j → bytes' ≡ sets bytes (8 * k) (part bytes (8 * j) (8 * (n - j))) → Sorted all (k + (n - j)) bytes'
    merged_right l lk e =
        followed m.done m.right k (n - j) _ (left_none l) m.done-count m.right_count
        (subst (Laid 0 m.done) (sym e) (laid_below m.done-laid (8 * k) (part bytes (8 * j) (8 * (n - j))) (omega (arith, m.done-count))))
        (laid_copy k (8 * (n - j)) m.right_laid (ap (λ t. 8 * t) (sym m.right_count)) (omega (arith, m.right_laid.inside)) e) up

    -- it stands there already
    pub merged_there : end ≤ i → k ≡ j → Sorted all (k + (n - j)) bytes
    merged_there l e =
        followed m.done m.right k (n - j) bytes (left_none l) m.done-count m.right_count m.done-laid
        (subst (λ o. Laid o m.right bytes) (sym e) m.right_laid) up

  -- two sorted runs, the second one after the first

  after-drop : {ys : List Waiting} {bytes : List ℕ} (o : ℕ) → Laid 0 ys (drop (8 * o) bytes) → 8 * o ≤ length bytes → Laid o ys bytes
  unfolding part
  after-drop {ys} {bytes} o h l = record { are = h.are; small = h.small; inside = omega (arith, h.inside, length-drop (8 * o) bytes) }

  module _ {A B : List Export} {bytes : List ℕ} (left right : ℕ) (a : Sorted A left bytes) (b : Sorted B right (drop (8 * left) bytes))
      (room : 8 * left ≤ length bytes) where
    right_run : Laid left b.waiting bytes
    right_run = after-drop left b.laid room

    pub two_ascend : ascending (puts A B) ≡ true
    two_ascend = puts_ascend A B a.ascends

    pub no_left : left ≡ 0 → Sorted (puts A B) right bytes
    unfolding exports_for
    no_left e =
        let z : a.waiting ≡ [] = none_of a.waiting (a.counted ∙ e) in
        let f : A ≡ [] = sym a.are ∙ ap (exports_for at w) z in
        record {
          waiting = b.waiting;
          are = b.are ∙ sym (puts_none B b.ascends) ∙ ap (λ t. puts t B) (sym f);
          counted = b.counted;
          laid = subst (λ o. Laid o b.waiting bytes) e right_run;
          ascends = two_ascend;
        }

    pub no_right : right ≡ 0 → Sorted (puts A B) left bytes
    unfolding exports_for puts
    no_right e =
        let z : b.waiting ≡ [] = none_of b.waiting (b.counted ∙ e) in
        let f : B ≡ [] = sym b.are ∙ ap (exports_for at w) z in
        record {
          waiting = a.waiting;
          are = a.are ∙ ap (puts A) (sym f);
          counted = a.counted;
          laid = a.laid;
          ascends = two_ascend;
        }

    -- the left run copied behind both
    pub merging_starts
        : {bytes' : List ℕ} → 8 * (left + right + left) ≤ length bytes → bytes' ≡ sets bytes (8 * (left + right)) (part bytes 0 (8 * left))
        → Merging (puts A B) (left + right) (left + right + left) (left + right) left 0 bytes'
    unfolding exports_for
    merging_starts l e =
        record {
          done = [];
          left = a.waiting;
          right = b.waiting;
          are = rw (a.are, b.are);
          done-count = refl;
          left-count = a.counted ∙ omega arith;
          right_count = b.counted ∙ omega arith;
          done-laid = laid_none 0 _ (omega arith);
          left_laid = laid_copy (left + right) (8 * left) a.laid (ap (λ t. 8 * t) (sym a.counted)) (omega (arith, a.counted)) e;
          right_laid = subst (Laid left b.waiting) (sym e) (laid_below right_run (8 * (left + right)) (part bytes 0 (8 * left)) (omega (arith, b.counted)));
          left_ascends = rw a.are a.ascends;
          right_ascends = rw b.are b.ascends;
        }

    -- the left one's last name comes before the right one's first: they are merged as they stand
    pub in_order
        : (x y : ℕ) {o : Ordering} → 0 < left → 0 < right → x ≡ slice_index (words_in bytes) (2 * left - 2) → y ≡ slice_index (words_in bytes) (2 * left)
        → o ≡ order_of (name_for at w x) (name_for at w y) → o ≡ Less → Sorted (puts A B) (left + right) bytes
    in_order x y {o} l r ex ey eo f =
        let la : length A ≡ left = ap length (sym a.are) ∙ length_exports at w a.waiting ∙ a.counted in
        let lb : length B ≡ right = ap length (sym b.are) ∙ length_exports at w b.waiting ∙ b.counted in
        let zx : 2 * left - 2 ≡ 2 * (0 + (left - 1)) = omega arith in
        let zy : 2 * left ≡ 2 * (left + 0) = omega arith in
        let zl : left - 1 ≡ length A - 1 = omega (arith, la) in
        let nx : name_for at w x ≡ name_in A (length A - 1) =
        laid-place 0 (left - 1) x a.laid (omega (arith, a.counted)) (ex ∙ ap (λ t. slice_index (words_in bytes) t) zx)
        ∙ ap (λ t. name_in t (left - 1)) a.are ∙ ap (name_in A) zl in
        let ny : name_for at w y ≡ name_in B 0 =
        laid-place left 0 y right_run (omega (arith, b.counted)) (ey ∙ ap (λ t. slice_index (words_in bytes) t) zy) ∙ ap (λ t. name_in t 0) b.are in
        let e : order_of (name_in A (length A - 1)) (name_in B 0) ≡ Less =
        ap (λ t. order_of t (name_in B 0)) (sym nx) ∙ ap (order_of (name_for at w x)) (sym ny) ∙ sym eo ∙ f in
        followed a.waiting b.waiting left right bytes
        (ap (λ t. t ++ exports_for at w b.waiting) a.are ∙ ap (λ t. A ++ t) b.are
        ∙ sym (merge_ordered A B (omega (arith, la)) (omega (arith, lb)) a.ascends b.ascends e))
        a.counted b.counted a.laid right_run two_ascend
