-- A record that leaves: what the bytes then encode.
use Rattle.std.specs.Prelude.{◌≡◌, ℕ, zero, suc, ◌+◌, ◌-◌, ◌*◌, ◌^◌, ◌<◌, ◌≤◌, true, List, [], ◌∷◌, ◌++◌, length, take, drop, replicate, slice_index, slice_index_or, Option}
use Rattle.std.proofs.Math.Path.{refl, sym, ap, subst}
use Rattle.std.proofs.Common.{◌∙◌, append_assoc}
use native.Mathlib.Omega.{arith}
use Rattle.std.proofs.Math.ListN.{length-append}
use Rattle.std.proofs.lemmas.List.{replicate-append-replicate}
use Rattle.std.proofs.Math.Seq.{take-append_seam, drop-append_seam, drop-append-add, take_at, drop_at}
use borrow.Author.Tests.{lt-ltb, le-ltb}
use Rattle.window.specs.Word.{word_in}
use Rattle.register.specs.Words.{part, flat, words_in}
use Rattle.register.specs.Lists.{part_middle}
use Rattle.register.specs.Module.{Module, Register}
use Rattle.register.specs.Encode.{record_words, record_names, module_words, module_names, encode_words, crs_known, crs_base}
use Rattle.register.specs.Decode.{module_size, register_of, is_register}
use Rattle.register.specs.CheckIs.{register-parts}
use Rattle.register.specs.Change.{without, removed}
use Rattle.register.specs.Buffers.{Below, padded, length-padded, length-flat, names_are, encode_records, encode_names}
use Rattle.register.specs.Append.Sets.{flat_append}
use Rattle.register.specs.Append.Held.{words_long, below_set}
use Rattle.register.specs.Append.Append.{names-append, words_append}
use Rattle.register.specs.Append.Stands.{encoded_small}
use Rattle.register.specs.Change.Bytes.{closed, names_end, lower_header, cut_record}
use Rattle.register.specs.Change.Lower.{RecordsFrom, word-amid, lower_amid, group, length_group, below_left, below_right, length-records, size-amid}
use Rattle.register.specs.Change.Encoded.{whole-fits, records_exact}

-- the record of module number `number` begins at byte `place` of a register
pub record RecordOfRegister (records names : List ℕ) (place : ℕ) : Type 0 where
  pub missing : List ℕ
  pub number : ℕ
  pub holds : is_register records names missing ≡ true
  pub below : number < length (register_of records names missing).modules
  pub there : place ≡ 32 + 4 * length (record_words 0 (take number (register_of records names missing).modules))

-- the encoding of the register without it
unfoldable pub remaining : {records names : List ℕ} {place : ℕ} → RecordOfRegister records names place → List ℕ × List ℕ
remaining {records} {names} s =
    let r = removed (register_of records names s.missing) s.number in
    (encode_records (length records) r, encode_names (length names) r)

-- modules before one, and after it

record Split (ms : List Module) (k : ℕ) : Type 0 where
  found : Module
  after : List Module
  all : ms ≡ take k ms ++ (found ∷ after)
  others : without ms k ≡ take k ms ++ after

split : (ms : List Module) (k : ℕ) → k < length ms → Split ms k
unfolding without
split [] k h = absurd (omega arith)
split (m ∷ ms) zero h = record { found = m; after = ms; all = refl; others = refl }
split (m ∷ ms) (suc k) h =
    let i = split ms k (omega arith) in
    record { found = i.found; after = i.after; all = ap (λ t. m ∷ t) i.all; others = ap (λ t. m ∷ t) i.others }

pad_flat : (n : ℕ) (us vs : List ℕ) → padded n (flat (us ++ vs)) ≡ flat us ++ (flat vs ++ replicate (n - length (flat (us ++ vs))) 0)
unfolding padded
pad_flat n us vs = group [] us vs (replicate (n - length (flat (us ++ vs))) 0)

padded_long : (l e : List ℕ) → l ≡ padded (length l) e → length e ≤ length l
unfolding padded
padded_long l e h =
    omega (arith, ap length h, length-append e (replicate (length l - length e) 0))

-- the middle of three out of a buffer
closed-padded
    : (n : ℕ) (a x b : List ℕ) → length (a ++ (x ++ b)) ≤ n → closed (padded n (a ++ (x ++ b))) (length a) (length x) ≡ padded n (a ++ b)
unfolding closed padded
closed-padded n a x b h =
    let z = n - length (a ++ (x ++ b)) in
    let e : a ++ (x ++ b) ++ replicate z 0 ≡ a ++ (x ++ (b ++ replicate z 0)) = simp append_assoc in
    let t : take (length a) (a ++ (x ++ (b ++ replicate z 0))) ≡ a = take-append_seam a (x ++ (b ++ replicate z 0)) in
    let d : drop (length a + length x) (a ++ (x ++ (b ++ replicate z 0))) ≡ b ++ replicate z 0 =
    drop-append-add a (x ++ (b ++ replicate z 0)) (length x) ∙ drop-append_seam x (b ++ replicate z 0) in
    let l : length (a ++ (x ++ b)) ≡ length a + (length x + length b) = rw (length-append, length-append) in
    let m : n - length (a ++ b) ≡ z + length x = omega (arith, length-append a b) in
    rw (e, t, d, m, ← replicate-append-replicate {A = ℕ} z (length x) 0) (simp append_assoc)

-- what the code finds of the record, and what it leaves
pub record Leaving (records names : List ℕ) (place : ℕ) (left : List ℕ × List ℕ) : Type 0 where
  pub offset : ℕ
  pub gap : ℕ
  pub size : ℕ
  pub size_is : 4 * module_size (words_in (drop place records)) ≡ size
  pub offset_is : word_in records (place + 12) ≡ offset
  pub end_is : names_end records (place + size) ≡ offset + gap
  pub whole : 32 ≤ size
  pub header : 32 ≤ place
  pub inside : place + size ≤ word_in records 12
  pub used-inside : word_in records 12 ≤ length records
  pub used-small : word_in records 12 < 2 ^ 32
  pub next-whole : place + size < word_in records 12 → place + size + 32 ≤ length records
  pub named : offset + gap ≤ length names
  pub later : RecordsFrom gap (part records (place + size) (word_in records 12 - (place + size)))
  pub cut : cut_record records place size gap (flat (record_words (later.from - gap) later.modules)) ≡ left.0
  pub named-closed : closed names offset gap ≡ left.1

module _ (ps bs : List Module) (x : Module) (c : Option ℕ) (ns : List (List ℕ)) where
  abbrev all : List Module
  all = ps ++ (x ∷ bs)

  abbrev whole-register : Register
  whole-register = record { modules = all; crs = c; missing = ns }

  abbrev left-register : Register
  left-register = record { modules = ps ++ bs; crs = c; missing = ns }

  -- the offset of its names, and how many name bytes it has
  abbrev q : ℕ
  q = 0 + length (record_names ps)

  abbrev g : ℕ
  g = length (module_names x)

  abbrev used : ℕ
  used = 4 * (8 + length (record_words 0 all))

  -- the words before its own, its own, and those after
  abbrev head : (count bytes named : ℕ) → List ℕ
  head count bytes named = count ∷ crs_known c ∷ crs_base c ∷ bytes ∷ named ∷ length ns ∷ 0 ∷ 0 ∷ []

  abbrev front : List ℕ
  front = head (length all) used (length (record_names all)) ++ record_words 0 ps

  abbrev own : List ℕ
  own = module_words q x

  abbrev back : List ℕ
  back = record_words (q + g) bs

  words-all : record_words 0 all ≡ record_words 0 ps ++ (own ++ back)
  unfolding record_words
  words-all = words_append 0 ps (x ∷ bs)

  words-whole : encode_words whole-register ≡ front ++ (own ++ back)
  unfolding encode_words
  words-whole = ap (λ t. head (length all) used (length (record_names all)) ++ t) words-all

  names-all : record_names all ≡ record_names ps ++ (module_names x ++ record_names bs)
  unfolding record_names
  names-all = names-append ps (x ∷ bs)

  length-names : length (record_names all) ≡ length (record_names ps) + (g + length (record_names bs))
  length-names = rw (names-all, length-append, length-append)

  length-words-all : length (record_words 0 all) ≡ length (record_words 0 ps) + (length own + length back)
  length-words-all = rw (words-all, length-append, length-append)

  module _ (n nn : ℕ) (s : Below (2 ^ 32) (encode_words whole-register)) (fits : 4 * length (encode_words whole-register) ≤ n)
      (named-fits : length (record_names all) ≤ nn) where
    abbrev records : List ℕ
    records = encode_records n whole-register

    abbrev place : ℕ
    place = 32 + 4 * length (record_words 0 ps)

    abbrev size : ℕ
    size = 4 * length own

    abbrev z : List ℕ
    z = replicate (n - length (flat (encode_words whole-register))) 0

    -- the buffer, as parts before the record's words, and before the words after it
    records-next : records ≡ flat front ++ flat own ++ (flat back ++ z)
    unfolding encode_records padded
    records-next =
        ap (λ t. flat t ++ z) words-whole ∙ group [] front (own ++ back) z ∙ group (flat front) own back z

    records-own : records ≡ flat front ++ (flat own ++ (flat back ++ z))
    records-own = records-next ∙ append_assoc (flat front) (flat own) (flat back ++ z)

    length_front : length (flat front) ≡ place
    length_front = length-flat front ∙ omega arith

    length-next : length (flat front ++ flat own) ≡ place + size
    length-next = length_group (flat front) own place length_front

    small-rest : Below (2 ^ 32) (own ++ back)
    small-rest = below_right front (own ++ back) (subst (Below (2 ^ 32)) words-whole s)

    small-own : Below (2 ^ 32) own
    small-own = below_left own back (omega arith) small-rest

    small-back : Below (2 ^ 32) back
    small-back = below_right own back small-rest

    offset_word : word_in records (place + 12) ≡ q
    unfolding module_words
    offset_word = rw records-own (word-amid (flat front) own (flat back ++ z) place 3 length_front (omega arith) small-own)

    used-word : word_in records 12 ≡ used
    unfolding encode_records padded encode_words
    used-word = word-amid [] (encode_words whole-register) z 0 3 refl (omega arith) s

    names-word : word_in records 16 ≡ length (record_names all)
    unfolding encode_records padded encode_words
    names-word = word-amid [] (encode_words whole-register) z 0 4 refl (omega arith) s

    length_buffer : length records ≡ n
    unfolding encode_records
    length_buffer = length-padded n (flat (encode_words whole-register)) (rw (length-flat (encode_words whole-register)) fits)

    used-fits : used ≤ n
    unfolding encode_words
    used-fits = omega arith

    used_is : used ≡ place + size + 4 * length back
    used_is = omega (arith, length-words-all)

    back-part : part records (place + size) (used - (place + size)) ≡ flat back
    back-part =
        rw records-next
        (part_middle (flat front ++ flat own) (flat back) z (place + size) (used - (place + size)) length-next
        (length-flat back ∙ omega (arith, used_is)))

    -- either nothing comes after it, or a record whose names begin where its own end
    record RecordAfter : Type 0 where
      ends : names_end records (place + size) ≡ q + g
      next : place + size < used → place + size + 32 ≤ n

    after : RecordAfter
    unfolding names_end record_words module_words record_names
    after = go bs refl
      where
        go : (ts : List Module) → bs ≡ ts → RecordAfter
        go [] e =
            let b : length back ≡ 0 = ap (λ t. length (record_words (q + g) t)) e in
            let m : length (record_names bs) ≡ 0 = ap (λ t. length (record_names t)) e in
            let u = used_is in
            record {
              ends = rw (used-word, le-ltb (place + size) used (omega arith)) (names-word ∙ omega (arith, length-names));
              next = λ h. absurd (omega arith);
            }
        go (y ∷ ys) e =
            let b : 8 ≤ length back = subst (λ t. 8 ≤ length (record_words (q + g) t)) (sym e) (omega arith) in
            let w : slice_index_or back 3 0 ≡ q + g = ap (λ t. slice_index (record_words (q + g) t) 3) e in
            let u = used_is in
            let f = used-fits in
            let v : word_in records (place + size + 12) ≡ slice_index_or back 3 0 =
            rw records-next (word-amid (flat front ++ flat own) back z (place + size) 3 length-next (omega arith) small-back) in
            record {
              ends = rw (used-word, lt-ltb (place + size) used (omega arith)) (v ∙ w);
              next = λ h. omega arith;
            }

    -- the words that stay
    abbrev moved : List ℕ
    moved = record_words q bs

    length_moved : length moved ≡ length back
    length_moved = length-records q (q + g) bs

    words_left : record_words 0 (ps ++ bs) ≡ record_words 0 ps ++ moved
    words_left = words_append 0 ps bs

    length_whole : 4 * length (encode_words whole-register) ≡ used
    unfolding encode_words
    length_whole = omega arith

    small-head : Below (2 ^ 32) (head (length all) used (length (record_names all)))
    unfolding encode_words
    small-head = below_left (head (length all) used (length (record_names all))) (record_words 0 all) (omega arith) s

    -- the header's words, lowered
    lower_header_lem
        : (rest : List ℕ)
        → lower_header (padded n (flat (head (length all) used (length (record_names all)) ++ rest))) size g
        ≡ padded n (flat (head (length all - 1) (used - size) (length (record_names all) - g) ++ rest))
    unfolding lower_header
    lower_header_lem rest =
        let a = length all in
        let b = length (record_names all) in
        let h₀ = head a used b in
        let h₁ = head (a - 1) used b in
        let h₂ = head (a - 1) (used - size) b in
        let t = flat rest ++ replicate (n - length (flat (h₀ ++ rest))) 0 in
        let s₀ : Below (2 ^ 32) h₀ = small-head in
        let s₁ : Below (2 ^ 32) h₁ = below_set (2 ^ 32) h₀ 0 (a - 1) s₀ (omega (arith, s₀ 0)) in
        let s₂ : Below (2 ^ 32) h₂ = below_set (2 ^ 32) h₁ 3 (used - size) s₁ (omega (arith, s₀ 3)) in
        let e₀ : padded n (flat (h₀ ++ rest)) ≡ flat h₀ ++ t = pad_flat n h₀ rest in
        let e₁ = lower_amid [] h₀ t 0 0 refl (omega arith) 1 (omega (arith, length-append ps (x ∷ bs))) s₀ in
        let e₂ = lower_amid [] h₁ t 0 3 refl (omega arith) size (omega (arith, used_is)) s₁ in
        let e₃ = lower_amid [] h₂ t 0 4 refl (omega arith) g (omega (arith, length-names)) s₂ in
        let h₃ = head (a - 1) (used - size) (b - g) in
        let l : length (flat (h₃ ++ rest)) ≡ length (flat (h₀ ++ rest)) = length-flat (h₃ ++ rest) ∙ sym (length-flat (h₀ ++ rest)) in
        rw (e₀, e₁, e₂, e₃) (sym (pad_flat n h₃ rest ∙ rw l))

    length_lowered : length (flat front ++ (flat own ++ flat moved)) ≡ used
    length_lowered =
        omega (
          arith,
          length-append (flat front) (flat own ++ flat moved),
          length-append (flat own) (flat moved),
          length_front,
          length-flat own,
          length-flat moved,
          length_moved,
          used_is,
        )

    -- with the later offsets lowered
    lowered_is : take (place + size) records ++ (flat moved ++ drop used records) ≡ padded n (flat front ++ (flat own ++ flat moved))
    unfolding padded encode_records
    lowered_is =
        let t : take (place + size) records ≡ flat front ++ flat own =
        ap (take (place + size)) records-next ∙ take_at (flat front ++ flat own) (flat back ++ z) (place + size) length-next in
        let w : length (flat (encode_words whole-register)) ≡ used = length-flat (encode_words whole-register) ∙ length_whole in
        let d : drop used records ≡ z = drop_at (flat (encode_words whole-register)) z used w in
        rw (t, d, length_lowered, w) (simp append_assoc)

    cut_is : cut_record records place size g (flat (record_words (q + g - g) bs)) ≡ encode_records n left-register
    unfolding cut_record encode_records encode_words
    cut_is =
        let e : q + g - g ≡ q = omega arith in
        let h : length (flat front ++ (flat own ++ flat moved)) ≤ n = omega (arith, length_lowered, used-fits) in
        let m : closed (padded n (flat front ++ (flat own ++ flat moved))) place size ≡ padded n (flat front ++ flat moved) =
        rw (← length_front, ← length-flat own) (closed-padded n (flat front) (flat own) (flat moved) h) in
        let count : length all - 1 ≡ length (ps ++ bs) = omega (arith, length-append ps (x ∷ bs), length-append ps bs) in
        let bytes : used - size ≡ 4 * (8 + length (record_words 0 (ps ++ bs))) =
        omega (arith, ap length words_left, length-append (record_words 0 ps) moved, length_moved, used_is) in
        let named : length (record_names all) - g ≡ length (record_names (ps ++ bs)) =
        omega (arith, length-names, ap length (names-append ps bs), length-append (record_names ps) (record_names bs)) in
        rw (e, used-word, lowered_is, m, ← flat_append front moved)
        (lower_header_lem (record_words 0 ps ++ moved)
        ∙ rw (count, bytes, named, ← words_left))

    names-left : closed (encode_names nn whole-register) q g ≡ encode_names nn left-register
    unfolding encode_names
    names-left =
        let o : q ≡ length (record_names ps) = omega arith in
        rw (o, names-all, names-append ps bs)
        (closed-padded nn (record_names ps) (module_names x) (record_names bs) (rw (← names-all) named-fits))

    length-names_buffer : length (encode_names nn whole-register) ≡ nn
    unfolding encode_names
    length-names_buffer = length-padded nn (record_names all) named-fits

    used-small : used < 2 ^ 32
    unfolding encode_words
    used-small = s 3

    leaving_encoded
        : Leaving records (encode_names nn whole-register) place (encode_records n left-register, encode_names nn left-register)
    leaving_encoded =
        record {
          offset = q;
          gap = g;
          size = size;
          size_is = rw records-own (ap (λ t. 4 * t) (size-amid x (flat front) (flat back ++ z) place q 0 length_front (omega arith) small-own));
          offset_is = offset_word;
          end_is = after.ends;
          whole = omega (arith, words_long q x);
          header = omega arith;
          inside = rw used-word (omega (arith, used_is));
          used-inside = rw (used-word, length_buffer) used-fits;
          used-small = rw used-word used-small;
          next-whole = rw (used-word, length_buffer) after.next;
          named = rw length-names_buffer (omega (arith, length-names, named-fits));
          later = later_here;
          cut = cut_here;
          named-closed = names-left;
        }
      where
        later_here : RecordsFrom g (part records (place + size) (word_in records 12 - (place + size)))
        later_here =
            record { from = q + g; modules = bs; are = rw used-word back-part; least = omega arith; small = small-back }

        cut_here : cut_record records place size g (flat (record_words (later_here.from - g) later_here.modules)) ≡ encode_records n left-register
        cut_here = cut_is

carry
    : {records records' names names' : List ℕ} {place place' : ℕ} {left left' : List ℕ × List ℕ} → records ≡ records' → names ≡ names' → place
    ≡ place'
    → left ≡ left' → Leaving records' names' place' left' → Leaving records names place left
carry {records} {records'} {names} {names'} {place} {place'} {left} {left'} er en ep el l =
    subst (λ t. Leaving t names place left) (sym er)
    (subst (λ t. Leaving records' t place left) (sym en)
    (subst (λ t. Leaving records' names' t left) (sym ep) (subst (λ t. Leaving records' names' place' t) (sym el) l)))

-- the record that stands there leaves so
pub leaving : {records names : List ℕ} {place : ℕ} → Below 256 records → (s : RecordOfRegister records names place) → Leaving records names place (remaining s)
unfolding remaining removed encode_names
leaving {records} {names} b s =
    let n = length records in
    let r = register_of records names s.missing in
    let p = register-parts records names s.missing s.holds in
    let d = split r.modules s.number s.below in
    let ps = take s.number r.modules in
    let with : List Module → Register = λ t. record { modules = t; crs = r.crs; missing = r.missing } in
    let ew : r ≡ with (ps ++ (d.found ∷ d.after)) = ap with d.all in
    let er : records ≡ encode_records n r = records_exact records names s.missing r b p.0 p.1 (omega (arith, s.below)) in
    let en : names ≡ padded (length names) (record_names r.modules) = (names_are records names s.missing r p.1).0 in
    carry (er ∙ ap (encode_records n) ew) (en ∙ ap (encode_names (length names)) ew) s.there
    (ap (λ (t : List Module). (encode_records n (with t), encode_names (length names) (with t))) d.others)
    (leaving_encoded ps d.after d.found r.crs r.missing n (length names)
    (subst (λ t. Below (2 ^ 32) (encode_words t)) ew (encoded_small records names s.missing r b p.1))
    (subst (λ t. 4 * length (encode_words t) ≤ n) ew (whole-fits records names s.missing r p.0 p.1))
    (subst (λ (t : Register). length (record_names t.modules) ≤ length names) ew (padded_long names (record_names r.modules) en)))
