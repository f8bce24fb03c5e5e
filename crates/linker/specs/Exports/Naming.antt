-- The names of those that wait written from the last to the first, each one's two words replaced by the three of the record.
use Rattle.std.specs.Prelude.{◌≡◌, ℕ, zero, suc, ◌+◌, ◌*◌, ◌%◌, ◌^◌, ◌<◌, ◌≤◌, List, [], ◌∷◌, ◌++◌, length, take, drop, nat_le, slice_index, slice_index_or}
use Rattle.std.proofs.Math.Path.{refl, sym, ap, subst}
use Rattle.std.proofs.Common.{◌∙◌, append_assoc, length-take-le, take_all, drop_at, get_or-take, leb-true}
use native.Mathlib.Omega.{arith}
use Rattle.std.proofs.Math.ListN.{length-append, drop_of_length-le}
use Rattle.std.proofs.Math.Seq.{sets, take-take, drop-cons}
use Rattle.std.proofs.lemmas.List.Edits.{sets-eq}
use Rattle.std.proofs.lemmas.List.{take-append-le}
use Rattle.window.specs.Tests.{both}
use Rattle.window.specs.Name.{no_zero, is_name, name_at-is_name, laid_over, name_is, name_taken}
use Rattle.window.specs.Word.{set_word_in}
use Rattle.register.specs.Words.{flat, words_in, words_take}
use Rattle.register.specs.Buffers.{Below, length-flat}
use Rattle.register.specs.Encode.{export_words, export_names}
use Rattle.register.specs.Append.Sets.{sets_append, sets_before, three-words, flat_append, words_of}
use Rattle.linker.specs.Exports.Waiting.{Waiting, Waits, name_for, exports_for, waiting_words, length-bytes}

-- a name that was read has at most 512 bytes
pub name-short
    : (at : ℕ) (w : List ℕ) (place : ℕ) (before : List ℕ) {count : ℕ} {buffer : List ℕ} → (count, buffer) ≡ laid_over (name_for at w place) before
    → count ≤ 512
unfolding is_name
name-short at w place before e =
    let n = name_for at w place in
    omega (
      arith,
      name_taken n before e,
      ap length (name_is n before e),
      leb-true (length n) 512 (both (nat_le (length n) 512) (no_zero n) (name_at-is_name at place w)).0,
    )

-- what stands before a run of stores, and from it on

take_sets : (l : List ℕ) (i : ℕ) (vs : List ℕ) (n : ℕ) → i + length vs ≤ length l → n ≤ i → take n (sets l i vs) ≡ take n l
take_sets l i vs n h m =
    let r = drop (i + length vs) l in
    let t : length (take i l) ≡ i = length-take-le i l (omega arith) in
    ap (take n) (sets-eq vs l i h ∙ append_assoc (take i l) vs r) ∙ take-append-le n (take i l) (vs ++ r) (omega arith) ∙ take-take n i l m

drop_sets : (l : List ℕ) (i : ℕ) (vs : List ℕ) → i + length vs ≤ length l → drop i (sets l i vs) ≡ vs ++ drop (i + length vs) l
drop_sets l i vs h =
    let r = drop (i + length vs) l in
    ap (drop i) (sets-eq vs l i h ∙ append_assoc (take i l) vs r) ∙ drop_at (take i l) (vs ++ r) i (length-take-le i l (omega arith))

-- where the first n words' bytes are the same, so are those words
word-front : (n : ℕ) (a b : List ℕ) (i : ℕ) → take (4 * n) a ≡ take (4 * n) b → i < n → slice_index (words_in a) i ≡ slice_index (words_in b) i
word-front n a b i e h =
    sym (get_or-take n (words_in a) i 0 h)
    ∙ ap (λ t. slice_index t i) (sym (words_take n a) ∙ ap words_in e ∙ words_take n b)
    ∙ get_or-take n (words_in b) i 0 h

module _ (at : ℕ) (w : List ℕ) where
  -- the words from number j on
  words-from : (j : ℕ) (xs : List Waiting) (i : ℕ) → slice_index (waiting_words at w xs) (2 * j + i) ≡ slice_index (waiting_words at w (drop j xs)) i
  unfolding waiting_words
  words-from zero xs i = let z : 2 * 0 + i ≡ i = omega arith in rw z
  words-from (suc j) [] i = refl
  words-from (suc j) (x ∷ xs) i =
      let z : 2 * suc j + i ≡ suc (suc (2 * j + i)) = omega arith in
      rw z (words-from j xs i)

  -- the names from number j on are no more than all
  names-from : (j : ℕ) (xs : List Waiting) → length (export_names (exports_for at w (drop j xs))) ≤ length (export_names (exports_for at w xs))
  unfolding exports_for export_names
  names-from zero xs = omega arith
  names-from (suc j) [] = omega arith
  names-from (suc j) (x ∷ xs) =
      omega (arith, names-from j xs, length-append (name_for at w x.place) (export_names (exports_for at w xs)))

module _ (at : ℕ) (w : List ℕ) (xs : List Waiting) (names₀ : List ℕ) (last : ℕ) where
  -- the first k still wait; the others have their names, from `offset` on, and their three words
  pub record NamesLeft (k offset : ℕ) (bytes ns : List ℕ) : Type 0 where
    pub front : take (4 * (2 * k)) bytes ≡ take (4 * (2 * k)) (flat (waiting_words at w xs))
    pub back : drop (12 * k) bytes ≡ flat (export_words offset (exports_for at w (drop k xs)))
    pub names : ns ≡ sets names₀ offset (export_names (exports_for at w (drop k xs)))
    pub end : offset + length (export_names (exports_for at w (drop k xs))) ≡ last

  -- at first all are left
  pub names-left-all
      : {bytes : List ℕ} {k : ℕ} → Waits at w xs (take (8 * length xs) bytes) → length bytes ≡ 12 * length xs → k ≡ length xs
      → NamesLeft k last bytes names₀
  unfolding exports_for export_words export_names flat
  names-left-all {bytes} {k} h l e =
      let none : drop k xs ≡ [] = drop_of_length-le xs {i = k} (omega arith) in
      let z : 4 * (2 * k) ≡ 8 * length xs = omega arith in
      record {
        front =
            ap (λ t. take t bytes) z ∙ h.are
            ∙ sym (take_all (4 * (2 * k)) (flat (waiting_words at w xs)) (omega (arith, length-bytes at w xs)));
        back =
            drop_of_length-le bytes {i = 12 * k} (omega arith)
            ∙ ap (λ t. flat (export_words last (exports_for at w t))) (sym none);
        names = ap (λ t. sets names₀ last (export_names (exports_for at w t))) (sym none);
        end = ap (λ t. last + length (export_names (exports_for at w t))) none ∙ omega arith;
      }

  module _ (first : ℕ) (whole : first + length (export_names (exports_for at w xs)) ≡ last) where
    -- at last none
    pub names-left_none
        : {k offset : ℕ} {bytes ns : List ℕ} → NamesLeft k offset bytes ns → k ≡ 0
        → (bytes ≡ flat (export_words first (exports_for at w xs))) × (ns ≡ sets names₀ first (export_names (exports_for at w xs)))
    names-left_none {k} {offset} {bytes} {ns} h₀ z =
        let h : NamesLeft 0 offset bytes ns = subst (λ t. NamesLeft t offset bytes ns) z h₀ in
        let e : offset ≡ first = omega (arith, h.end) in (
          h.back ∙ ap (λ t. flat (export_words t (exports_for at w xs))) e,
          h.names ∙ ap (λ t. sets names₀ t (export_names (exports_for at w xs))) e,
        )

    -- the last that waits gets its name before those written, and its three words
    pub names-left-turn
        : Below (2 ^ 32) (waiting_words at w xs) → {k j offset : ℕ} {bytes ns : List ℕ} → NamesLeft k offset bytes ns → k ≡ suc j
        → j < length xs → length bytes ≡ 12 * length xs → (before : List ℕ) {place address count next : ℕ} {buffer ns' w₁ w₂ w₃ : List ℕ}
        → place ≡ slice_index (words_in bytes) (2 * j) → address ≡ slice_index (words_in bytes) (2 * j + 1)
        → (count, buffer) ≡ laid_over (name_for at w place) before → (next + count) % 2 ^ 32 ≡ offset → next < 2 ^ 32
        → ns' ≡ sets ns next (take count buffer) → w₁ ≡ set_word_in bytes (12 * j) next → w₂ ≡ set_word_in w₁ (12 * j + 4) count
        → w₃ ≡ set_word_in w₂ (12 * j + 8) address → NamesLeft j next w₃ ns'
    unfolding waiting_words exports_for export_words export_names
    names-left-turn small {k} {j} {offset} {bytes} {ns} h₀ e b l before {place} {address} {count} {next} {buffer} {w₃ = w₃} p a n o m en e₁ e₂ e₃ =
        let h : NamesLeft (suc j) offset bytes ns = subst (λ t. NamesLeft t offset bytes ns) e h₀ in
        let x : Waiting = slice_index_or xs j (record { place = 0; address = 0 }) in
        let rest = drop (suc j) xs in
        let name = name_for at w x.place in
        let more = export_names (exports_for at w rest) in
        let three = next ∷ length name ∷ x.address ∷ [] in
        let d : drop j xs ≡ x ∷ rest = drop-cons xs j _ b in
        let read : (i : ℕ) → i < 2 → slice_index (words_in bytes) (2 * j + i) ≡ slice_index_or (waiting_words at w (x ∷ rest)) i 0 =
        λ i s. word-front (2 * suc j) bytes (flat (waiting_words at w xs)) (2 * j + i) h.front (omega arith)
        ∙ ap (λ t. slice_index t (2 * j + i)) (words_of (waiting_words at w xs) small)
        ∙ words-from at w j xs i ∙ ap (λ t. slice_index (waiting_words at w t) i) d in
        let z : 2 * j ≡ 2 * j + 0 = omega arith in
        let ep : place ≡ x.place = p ∙ ap (λ t. slice_index (words_in bytes) t) z ∙ read 0 (omega arith) in
        let ea : address ≡ x.address = a ∙ read 1 (omega arith) in
        let taken : take count buffer ≡ name = name_is _ before n ∙ ap (name_for at w) ep in
        let ec : count ≡ length name = name_taken _ before n ∙ ap length taken in
        let ej : export_names (exports_for at w (drop j xs)) ≡ name ++ more = ap (λ t. export_names (exports_for at w t)) d in
        let lj : length (export_names (exports_for at w (drop j xs))) ≡ length name + length more = ap length ej ∙ length-append name more in
        let eo : next + length name ≡ offset = omega (arith, h.end, whole, names-from at w j xs) in
        let stored : w₃ ≡ sets bytes (12 * j) (flat three) =
        three-words bytes (12 * j) next count address e₁ e₂ e₃ ∙ ap (λ t. sets bytes (12 * j) (flat (next ∷ t ∷ address ∷ []))) ec
        ∙ ap (λ t. sets bytes (12 * j) (flat (next ∷ length name ∷ t ∷ []))) ea in
        let f : length (flat three) ≡ 12 = length-flat three in
        record {
          front =
              ap (take (4 * (2 * j))) stored ∙ take_sets bytes (12 * j) (flat three) (4 * (2 * j)) (omega arith) (omega arith)
              ∙ sym (take-take (4 * (2 * j)) (4 * (2 * suc j)) bytes (omega arith)) ∙ ap (take (4 * (2 * j))) h.front
              ∙ take-take (4 * (2 * j)) (4 * (2 * suc j)) (flat (waiting_words at w xs)) (omega arith);
          back =
              let y : 12 * j + length (flat three) ≡ 12 * suc j = omega arith in
              ap (drop (12 * j)) stored ∙ drop_sets bytes (12 * j) (flat three) (omega arith)
              ∙ ap (λ t. flat three ++ drop t bytes) y ∙ ap (λ t. flat three ++ t) h.back
              ∙ ap (λ t. flat three ++ flat (export_words t (exports_for at w rest))) (sym eo)
              ∙ sym (flat_append three (export_words (next + length name) (exports_for at w rest)))
              ∙ ap (λ t. flat (export_words next (exports_for at w t))) (sym d);
          names =
              en ∙ ap (sets ns next) taken ∙ ap (λ t. sets t next name) h.names
              ∙ sets_before names₀ offset more next name (omega arith)
              ∙ ap (λ t. sets (sets names₀ next name) t more) (sym eo)
              ∙ sym (sets_append names₀ next name more) ∙ ap (sets names₀ next) (sym ej);
          end = omega (arith, h.end);
        }
