-- Words among the bytes of a buffer, and records whose name offsets fall by d.
use Rattle.std.specs.Prelude.{◌≡◌, ℕ, zero, suc, ◌+◌, ◌-◌, ◌*◌, ◌^◌, ◌<◌, ◌≤◌, List, [], ◌∷◌, ◌++◌, length, drop, slice_index, slice_index_or, slice_set, refl}
use Rattle.std.proofs.Math.Path.{sym, ap}
use Rattle.std.proofs.Common.{◌∙◌, subst, append_assoc, append-nil, length-append, length-set, drop_at}
use native.Mathlib.Omega.{arith}
use Rattle.std.proofs.lemmas.List.Edits.{sets, sets-eq}
use Rattle.std.proofs.Math.Seq.{take-append_seam, drop-append-add, drop-append_seam}
use Rattle.window.specs.Memory.{◌⊖◌}
use Rattle.window.specs.Word.{word_in, set_word_in}
use Rattle.register.specs.Words.{flat, words_in}
use Rattle.register.specs.Module.{Export, Module}
use Rattle.register.specs.Encode.{export_words, module_names, module_words, record_words, flag}
use Rattle.register.specs.Decode.{module_size}
use Rattle.register.specs.CheckComplete.{record_size}
use Rattle.register.specs.Buffers.{Below, length-flat, words-flat}
use Rattle.register.specs.Append.Sets.{change-laid, word-laid, flat_append}
use Rattle.register.specs.Append.Held.{words_long}
use Rattle.register.specs.Change.Bytes.{lower_word, lower_exports, lower_record}

-- words in the middle of bytes: read, and changed

module _ (a ws z : List ℕ) where
  abbrev pub amid : List ℕ
  amid = a ++ (flat ws ++ z)

  pub amid_sets : (us : List ℕ) → length us ≡ length ws → sets amid (length a) (flat us) ≡ a ++ (flat us ++ z)
  amid_sets us e =
      let l : length (flat us) ≡ length (flat ws) = length-flat us ∙ ap (λ n. 4 * n) e ∙ sym (length-flat ws) in
      let n : length amid ≡ length a + (length (flat ws) + length z) = rw (length-append, length-append) in
      let d : drop (length a + length (flat us)) amid ≡ z = rw (l, drop-append-add) (drop-append_seam (flat ws) z) in
      sets-eq (flat us) amid (length a) (omega arith) ∙ rw (take-append_seam, d) (append_assoc a (flat us) z)

  module _ (o i : ℕ) (lo : length a ≡ o) (h : i < length ws) where
    pub word-amid : Below (2 ^ 32) ws → word_in amid (o + 4 * i) ≡ slice_index ws i
    word-amid b =
        let f : length (flat ws) ≡ 4 * length ws = length-flat ws in
        let n : length amid ≡ length a + (length (flat ws) + length z) = rw (length-append, length-append) in
        rw (← lo) (ap (λ t. word_in t (length a + 4 * i)) (sym (amid_sets ws refl)) ∙ word-laid amid (length a) ws i (omega arith) b h)

    pub set-amid : (v : ℕ) → set_word_in amid (o + 4 * i) v ≡ a ++ (flat (slice_set ws i v) ++ z)
    set-amid v =
        rw (← lo)
        (ap (λ t. set_word_in t (length a + 4 * i) v) (sym (amid_sets ws refl)) ∙ change-laid amid (length a) ws i v h
        ∙ amid_sets (slice_set ws i v) (length-set ws i v))

    pub lower_amid
        : (d : ℕ) → d ≤ slice_index ws i → Below (2 ^ 32) ws → lower_word amid (o + 4 * i) d ≡ a ++ (flat (slice_set ws i (slice_index ws i - d)) ++ z)
    unfolding lower_word
    lower_amid d g b =
        let s : slice_index_or ws i 0 < 2 ^ 32 = b i in
        let e : slice_index_or ws i 0 ⊖ d ≡ slice_index ws i - d = omega arith in
        rw (word-amid b, e) (set-amid (slice_index ws i - d))

-- records, from a name offset of at least d on
pub record RecordsFrom (d : ℕ) (bytes : List ℕ) : Type 0 where
  pub from : ℕ
  pub modules : List Module
  pub are : bytes ≡ flat (record_words from modules)
  pub least : d ≤ from
  pub small : Below (2 ^ 32) (record_words from modules)

-- the words us, then vs
pub group : (a us vs z : List ℕ) → a ++ (flat (us ++ vs) ++ z) ≡ (a ++ flat us) ++ (flat vs ++ z)
group a us vs z = rw (flat_append us vs) (simp append_assoc)

pub length_group : (a us : List ℕ) (o : ℕ) → length a ≡ o → length (a ++ flat us) ≡ o + 4 * length us
length_group a us o e = length-append a (flat us) ∙ rw (e, length-flat us)

-- words of two lists
pub below_left : {b : ℕ} (us vs : List ℕ) → 0 < b → Below b (us ++ vs) → Below b us
below_left [] vs h s i = h
below_left (u ∷ us) vs h s zero = s 0
below_left (u ∷ us) vs h s (suc i) = below_left us vs h (λ k. s (suc k)) i

pub below_right : {b : ℕ} (us vs : List ℕ) → Below b (us ++ vs) → Below b vs
below_right [] vs s = s
below_right (u ∷ us) vs s = below_right us vs (λ k. s (suc k))

-- exports in the middle of bytes, their names from q on
pub lower_exports_lem
    : (xs : List Export) (a z : List ℕ) (o q d : ℕ) → length a ≡ o → d ≤ q → Below (2 ^ 32) (export_words q xs)
    → lower_exports (length xs) (a ++ (flat (export_words q xs) ++ z)) o d ≡ a ++ (flat (export_words (q - d) xs) ++ z)
unfolding lower_exports export_words
lower_exports_lem [] a z o q d lo h b = refl
lower_exports_lem (x ∷ xs) a z o q d lo h b =
    let n = length x.name in
    let first = (q - d) ∷ n ∷ x.address ∷ [] in
    let o₀ : o + 4 * 0 ≡ o = omega arith in
    let c : q + n - d ≡ q - d + n = omega arith in
    let e : lower_word (a ++ (flat (export_words q (x ∷ xs)) ++ z)) o d ≡ (a ++ flat first) ++ (flat (export_words (q + n) xs) ++ z) =
    rw o₀ at (lower_amid a (export_words q (x ∷ xs)) z o 0 lo (omega arith) d h b) ∙ group a first (export_words (q + n) xs) z in
    ap (λ t. lower_exports (length xs) t (o + 12) d) e
    ∙ lower_exports_lem xs (a ++ flat first) z (o + 12) (q + n) d (length_group a first o lo) (omega arith) (λ i. b (suc (suc (suc i))))
    ∙ rw c (sym (group a first (export_words (q - d + n) xs) z))

-- the words of a record

pub length-records : (q p : ℕ) (ms : List Module) → length (record_words q ms) ≡ length (record_words p ms)
unfolding record_words
length-records q p [] = refl
length-records q p (m ∷ ms) =
    let i = length-records (q + length (module_names m)) (p + length (module_names m)) ms in
    rw (length-append, length-append, words_long q m, words_long p m, i)

-- a record in the middle of bytes
module _ (m : Module) (a z : List ℕ) (o q d : ℕ) (lo : length a ≡ o) (h : d ≤ q) (b : Below (2 ^ 32) (module_words q m)) where
  abbrev from : ℕ
  from = q + length m.name

  -- its words up to the exports
  abbrev front : ℕ → List ℕ
  front p = m.base ∷ m.size ∷ flag m.auto ∷ p ∷ length m.name ∷ length m.segments ∷ length m.named ∷ length m.indexed ∷ m.segments

  parted : (p r : ℕ) → a ++ (flat (front p ++ (export_words r m.named ++ m.indexed)) ++ z)
      ≡ (a ++ flat (front p)) ++ (flat (export_words r m.named) ++ (flat m.indexed ++ z))
  parted p r =
      group a (front p) (export_words r m.named ++ m.indexed) z
      ∙ group (a ++ flat (front p)) (export_words r m.named) m.indexed z
      ∙ append_assoc (a ++ flat (front p)) (flat (export_words r m.named)) (flat m.indexed ++ z)

  pub segments-word : word_in (a ++ (flat (module_words q m) ++ z)) (o + 20) ≡ length m.segments
  unfolding module_words
  segments-word = word-amid a (module_words q m) z o 5 lo (omega arith) b

  pub named-word : word_in (a ++ (flat (module_words q m) ++ z)) (o + 24) ≡ length m.named
  unfolding module_words
  named-word = word-amid a (module_words q m) z o 6 lo (omega arith) b

  pub size-amid : module_size (words_in (drop o (a ++ (flat (module_words q m) ++ z)))) ≡ length (module_words q m)
  size-amid =
      let p : drop o (a ++ (flat (module_words q m) ++ z)) ≡ flat (module_words q m) ++ z = drop_at a (flat (module_words q m) ++ z) o lo in
      rw (p, words-flat (module_words q m) z b) (record_size m (words_in z) q)

  pub lower_record_lem : lower_record (a ++ (flat (module_words q m) ++ z)) o d ≡ a ++ (flat (module_words (q - d) m) ++ z)
  unfolding lower_record module_words
  lower_record_lem =
      let w : lower_word (a ++ (flat (module_words q m) ++ z)) (o + 12) d
      ≡ (a ++ flat (front (q - d))) ++ (flat (export_words from m.named) ++ (flat m.indexed ++ z)) =
      lower_amid a (module_words q m) z o 3 lo (omega arith) d h b ∙ parted (q - d) from in
      let s : Below (2 ^ 32) (export_words from m.named) =
      below_left (export_words from m.named) m.indexed (omega arith) (below_right (front q) (export_words from m.named ++ m.indexed) b) in
      let c : from - d ≡ q - d + length m.name = omega arith in
      rw (segments-word, named-word, w)
      (lower_exports_lem m.named (a ++ flat (front (q - d))) (flat m.indexed ++ z) (o + 4 * (8 + length m.segments)) from d
      (length_group a (front (q - d)) o lo ∙ omega arith) (omega arith) s
      ∙ rw c (sym (parted (q - d) (q - d + length m.name))))

-- records, those below `place` done; once all are, the bytes are `aim`
pub record Walked (d place : ℕ) (bytes aim : List ℕ) : Type 0 where
  pub done : List ℕ
  pub from : ℕ
  pub rest : List Module
  pub are : bytes ≡ done ++ flat (record_words from rest)
  pub at : length done ≡ place
  pub least : d ≤ from
  pub small : Below (2 ^ 32) (record_words from rest)
  pub end : done ++ flat (record_words (from - d) rest) ≡ aim

pub walk_start : {d : ℕ} {bytes : List ℕ} (s : RecordsFrom d bytes) → Walked d 0 bytes (flat (record_words (s.from - d) s.modules))
walk_start s =
    record { done = []; from = s.from; rest = s.modules; are = s.are; at = refl; least = s.least; small = s.small; end = refl }

-- a record more
pub record NextRecord (d place : ℕ) (bytes aim : List ℕ) : Type 0 where
  pub some : 0 < module_size (words_in (drop place bytes))
  pub inside : place + 4 * module_size (words_in (drop place bytes)) ≤ length bytes
  pub fits : place + 4 * (8 + word_in bytes (place + 20)) + 12 * word_in bytes (place + 24) ≤ length bytes
  pub walked : Walked d (place + 4 * module_size (words_in (drop place bytes))) (lower_record bytes place d) aim

module _ (d o q : ℕ) (done aim : List ℕ) (m : Module) (ms : List Module) (lo : length done ≡ o) (h : d ≤ q)
    (b : Below (2 ^ 32) (record_words q (m ∷ ms))) (e : done ++ flat (record_words (q - d) (m ∷ ms)) ≡ aim) where
  abbrev q' : ℕ
  q' = q + length (module_names m)

  abbrev z : List ℕ
  z = flat (record_words q' ms)

  abbrev whole : List ℕ
  whole = done ++ (flat (module_words q m) ++ z)

  own : Below (2 ^ 32) (module_words q m)
  unfolding record_words
  own = below_left (module_words q m) (record_words q' ms) (omega arith) b

  size_here : module_size (words_in (drop o whole)) ≡ length (module_words q m)
  size_here = size-amid m done z o q d lo h own

  next_walked : Walked d (o + 4 * length (module_words q m)) (done ++ (flat (module_words (q - d) m) ++ z)) aim
  unfolding record_words
  next_walked =
      let c : q' - d ≡ q - d + length (module_names m) = omega arith in
      let l : length (module_words (q - d) m) ≡ length (module_words q m) = words_long (q - d) m ∙ sym (words_long q m) in
      record {
        done = done ++ flat (module_words (q - d) m);
        from = q';
        rest = ms;
        are = sym (append_assoc done (flat (module_words (q - d) m)) z);
        at = length_group done (module_words (q - d) m) o lo ∙ rw l;
        least = omega arith;
        small = below_right (module_words q m) (record_words q' ms) b;
        end = rw c (append_assoc done (flat (module_words (q - d) m)) (flat (record_words (q - d + length (module_names m)) ms))
            ∙ ap (λ t. done ++ t) (sym (flat_append (module_words (q - d) m) (record_words (q - d + length (module_names m)) ms)))
            ∙ e);
      }

  next_here : NextRecord d o whole aim
  next_here =
      let k = words_long q m in
      let f : length (flat (module_words q m)) ≡ 4 * length (module_words q m) = length-flat (module_words q m) in
      let n : length whole ≡ length done + (length (flat (module_words q m)) + length z) = rw (length-append, length-append) in
      record {
        some = rw size_here (omega arith);
        inside = rw size_here (omega arith);
        fits = rw (segments-word m done z o q d lo h own, named-word m done z o q d lo h own) (omega arith);
        walked = rw (size_here, lower_record_lem m done z o q d lo h own) next_walked;
      }

pub walk-next : {d place : ℕ} {bytes aim : List ℕ} → Walked d place bytes aim → place < length bytes → NextRecord d place bytes aim
unfolding record_words flat
walk-next {d} {place} {bytes} {aim} w h = go w.rest w.are w.small w.end
  where
    go
        : (ms : List Module) → bytes ≡ w.done ++ flat (record_words w.from ms) → Below (2 ^ 32) (record_words w.from ms)
        → w.done ++ flat (record_words (w.from - d) ms) ≡ aim → NextRecord d place bytes aim
    go [] a b e = let n : length bytes ≡ place = rw (a, append-nil) w.at in absurd (omega arith)
    go (m ∷ ms) a b e =
        let q = w.from in
        let s : bytes ≡ w.done ++ (flat (module_words q m) ++ flat (record_words (q + length (module_names m)) ms)) =
        a ∙ ap (λ t. w.done ++ t) (flat_append (module_words q m) (record_words (q + length (module_names m)) ms)) in
        subst (λ t. NextRecord d place t aim) (sym s) (next_here d place q w.done aim m ms w.at w.least b e)

pub walk_end : {d place : ℕ} {bytes aim : List ℕ} → Walked d place bytes aim → length bytes ≤ place → bytes ≡ aim
unfolding record_words
walk_end {d} {place} {bytes} {aim} w h = go w.rest w.are w.end
  where
    go
        : (ms : List Module) → bytes ≡ w.done ++ flat (record_words w.from ms) → w.done ++ flat (record_words (w.from - d) ms) ≡ aim
        → bytes ≡ aim
    go [] a e = a ∙ e
    go (m ∷ ms) a e =
        let us = module_words w.from m in
        let vs = record_words (w.from + length (module_names m)) ms in
        let k = words_long w.from m in
        let n : length bytes ≡ length w.done + 4 * (length us + length vs) =
        rw (a, length-append, length-flat (us ++ vs), length-append us vs) in
        absurd (omega (arith, w.at))
