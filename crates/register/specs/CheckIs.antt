-- The test as the code makes it is `is_register`; and what encodes a proper register is read back as that register.
use Rattle.std.specs.Prelude.{if◌then◌else◌, ◌≡◌, ℕ, ◌+◌, ◌-◌, ◌*◌, ◌/◌, ◌%◌, ◌<◌, ◌≤◌, Bool, true, false, ◌&&◌, ◌||◌, leb, List, [], ◌++◌, length, take, drop, ◌==◌, nat_eq, nat_le, slice_index, slice_index_or, slice_set, refl, Option, Some, None}
use Rattle.std.proofs.Math.Path.{sym, ap}
use Rattle.std.proofs.Common.{◌∙◌, subst, length-set, take-append-drop, get_or-take, take_all, drop-set-lt}
use native.Mathlib.Omega.{arith}
use Rattle.std.proofs.Math.Decide.{dec_le}
use Rattle.std.proofs.Math.Seq.{length-take-le}
use borrow.Author.Tests.{eqb-true, leb-true, eq-eqb, le-leb}
use Rattle.window.specs.Tests.{both, also, iff_same}
use Rattle.register.specs.Words.{part, same, all_zero, holds, words_in, length-words, part-words}
use Rattle.register.specs.Lists.{same_true, same_refl, length_part}
use Rattle.register.specs.Module.{Module, Register, proper}
use Rattle.register.specs.Proper.{Proper, proper-parts, parts-proper}
use Rattle.register.specs.Encode.{record_words, record_names, crs_known, crs_base, encode_words, slots}
use Rattle.register.specs.Decode.{read_modules, read_crs, read_slots, settled, body, read_register, encodes, register_of, is_register, decode}
use Rattle.register.specs.Check.{modules_ok, slots_ok, counts_ok, sizes_ok, contents_ok, checked, passes}
use Rattle.register.specs.CheckSound.{take_eight, RecordsPass, modules_sound}
use Rattle.register.specs.CheckComplete.{RecordsBack, modules_complete}
use Rattle.register.specs.Slots.{Slots, slots_sound, SlotsHold, slots_complete, length-slots}

-- the settled words: as many, and the same after the header

pub length-settled : (ws : List ℕ) → length (settled ws) ≡ length ws
unfolding settled
length-settled ws = go (slice_index ws 0 == 0 && slice_index ws 3 == 0)
  where
    go : (b : Bool) → length (if b then slice_set ws 3 32 else ws) ≡ length ws
    go true = length-set ws 3 32
    go false = refl

settled-rest : (ws : List ℕ) (n : ℕ) → part (settled ws) 8 n ≡ part ws 8 n
unfolding settled part
settled-rest ws n = go (slice_index ws 0 == 0 && slice_index ws 3 == 0)
  where
    go : (b : Bool) → take n (drop 8 (if b then slice_set ws 3 32 else ws)) ≡ take n (drop 8 ws)
    go true = ap (take n) (drop-set-lt 8 ws 3 32 (omega arith))
    go false = refl

pub body_bytes
    : (records : List ℕ) (used : ℕ) → 32 ≤ used → used % 4 ≡ 0
    → words_in (part records 32 (used - 32)) ≡ part (settled (words_in records)) 8 (used / 4 - 8)
body_bytes records used h m =
    let e : used - 32 ≡ 4 * (used / 4 - 8) = omega arith in
    rw e (part-words records 8 (used / 4 - 8) ∙ sym (settled-rest (words_in records) (used / 4 - 8)))

pub body_is
    : (records : List ℕ) → 32 ≤ slice_index (settled (words_in records)) 3 → slice_index (settled (words_in records)) 3 % 4 ≡ 0
    → words_in (part records 32 (slice_index (settled (words_in records)) 3 - 32)) ≡ body (settled (words_in records))
unfolding body
body_is records h m = body_bytes records (slice_index (settled (words_in records)) 3) h m

-- the CRS words

crs-words : (a b : ℕ) → (a == 1 || (a == 0 && b == 0)) ≡ true → (crs_known (read_crs a b) ≡ a) × (crs_base (read_crs a b) ≡ b)
unfolding crs_known crs_base read_crs
crs-words a b = go (a == 1) refl
  where
    go
        : (t : Bool) → (a == 1) ≡ t → (t || (a == 0 && b == 0)) ≡ true
        → (crs_known (if t then Some b else None) ≡ a) × (crs_base (if t then Some b else None) ≡ b)
    go true p e = (sym (eqb-true a 1 p), refl)
    go false p e = let f = both (a == 0) (b == 0) e in (sym (eqb-true a 0 f.0), sym (eqb-true b 0 f.1))

crs-passes : (c : Option ℕ) → (crs_known c == 1 || (crs_known c == 0 && crs_base c == 0)) ≡ true
unfolding crs_known crs_base
crs-passes None = refl
crs-passes (Some base) = refl

crs-back : (c : Option ℕ) → read_crs (crs_known c) (crs_base c) ≡ c
unfolding crs_known crs_base read_crs
crs-back None = refl
crs-back (Some base) = refl

-- a list that begins with e
pub begins_long : (e l : List ℕ) → take (length e) l ≡ e → length e ≤ length l
begins_long e l h = elim (dec_le (length e) (length l)) [ yes y ↦ y | no n ↦ short n ]
  where
    short : (length e ≤ length l → ⊥) → length e ≤ length l
    short n = let g : length l ≤ length e = omega arith in omega (arith, ap length (sym (take_all (length e) l g) ∙ h))

begins-at : (e l : List ℕ) → take (length e) l ≡ e → (k : ℕ) → k < length e → slice_index l k ≡ slice_index e k
begins-at e l h k g = sym (get_or-take (length e) l k 0 g) ∙ ap (λ t. slice_index t k) h

holds_parts : (l e : List ℕ) → holds l e ≡ true → (take (length e) l ≡ e) × (all_zero (drop (length e) l) ≡ true)
unfolding holds
holds_parts l e h =
    let a = both (same (take (length e) l) e) (all_zero (drop (length e) l)) h in
    (same_true (take (length e) l) e a.0, a.1)

holds_made : (l e : List ℕ) → take (length e) l ≡ e → all_zero (drop (length e) l) ≡ true → holds l e ≡ true
unfolding holds
holds_made l e h z = let s : same (take (length e) l) e ≡ true = rw h (same_refl e) in also s z

-- the header's tests, one by one
pub record Counts (ws : List ℕ) : Type 0 where
  pub count : slice_index_or ws 0 0 ≤ 64
  pub kept : slice_index_or ws 5 0 ≤ 64
  pub word6 : slice_index_or ws 6 0 ≡ 0
  pub word7 : slice_index_or ws 7 0 ≡ 0
  pub crs : (slice_index ws 1 == 1 || (slice_index ws 1 == 0 && slice_index ws 2 == 0)) ≡ true

pub counts : (ws : List ℕ) → counts_ok ws ≡ true → Counts ws
unfolding counts_ok
counts ws e =
    let crs : Bool = slice_index ws 1 == 1 || (slice_index ws 1 == 0 && slice_index ws 2 == 0) in
    let w₅ : Bool = leb (slice_index ws 5) 64 in
    let w₆ : Bool = nat_eq (slice_index ws 6) 0 in
    let w₇ : Bool = nat_eq (slice_index ws 7) 0 in
    let a = both (nat_le (slice_index ws 0) 64) (w₅ && (w₆ && (w₇ && crs))) e in
    let b = both w₅ (w₆ && (w₇ && crs)) a.1 in
    let c = both w₆ (w₇ && crs) b.1 in
    let d = both w₇ crs c.1 in
    record {
      count = leb-true (slice_index ws 0) 64 a.0;
      kept = leb-true (slice_index ws 5) 64 b.0;
      word6 = eqb-true (slice_index ws 6) 0 c.0;
      word7 = eqb-true (slice_index ws 7) 0 d.0;
      crs = d.1;
    }

pub record Sizes (used named records names : ℕ) : Type 0 where
  pub least : 32 ≤ used
  pub inside : used ≤ records
  pub aligned : used % 4 ≡ 0
  pub named-inside : named ≤ names

pub sizes : (used named records names : ℕ) → sizes_ok used named records names ≡ true → Sizes used named records names
unfolding sizes_ok
sizes used named records names e =
    let a = both (nat_le 32 used) (nat_le used records && (used % 4 == 0 && nat_le named names)) e in
    let b = both (nat_le used records) (used % 4 == 0 && nat_le named names) a.1 in
    let c = both (used % 4 == 0) (nat_le named names) b.1 in
    record {
      least = leb-true 32 used a.0;
      inside = leb-true used records b.0;
      aligned = eqb-true (used % 4) 0 c.0;
      named-inside = leb-true named names c.1;
    }

-- what passes is an encoding of what is read from it

module _ (records names missing : List ℕ) (small : (i : ℕ) → slice_index missing i < 256) where
  abbrev ws : List ℕ
  ws = settled (words_in records)

  abbrev reg : Register
  reg = read_register ws names missing

  abbrev ms : List Module
  ms = read_modules (slice_index ws 0) (body ws) (take (slice_index ws 4) names)

  sound_words
      : Counts ws → Sizes (slice_index ws 3) (slice_index ws 4) (length records) (length names) → RecordsPass (body ws) (take (slice_index ws 4) names) (slice_index ws 0) 0
      → Slots (slice_index ws 5) missing → (take (length (encode_words reg)) ws ≡ encode_words reg) × (4 * length (encode_words reg) ≡ slice_index ws 3)
  unfolding encode_words read_register body
  sound_words h z r s =
      let u = slice_index_or ws 3 0 in
      let lw : length ws ≡ length records / 4 = length-settled (words_in records) ∙ length-words records in
      let lb : length (part ws 8 (u / 4 - 8)) ≡ u / 4 - 8 = length_part ws 8 (u / 4 - 8) (omega (arith, z.inside)) in
      let lr : length (record_words 0 ms) ≡ u / 4 - 8 = ap length (sym r.words) ∙ lb in
      let ln : length (record_names ms) ≡ slice_index_or ws 4 0 = ap length (sym r.bytes) ∙ length-take-le (slice_index ws 4) names z.named-inside in
      let c = crs-words (slice_index ws 1) (slice_index ws 2) h.crs in
      let n : 8 + length (record_words 0 ms) ≡ u / 4 = omega (arith, z.least) in
      let f : 4 * (8 + length (record_words 0 ms)) ≡ u = omega (arith, z.aligned) in
      let g : length (encode_words reg) ≡ 8 + length (record_words 0 ms) = omega arith in
      let e : take (8 + length (record_words 0 ms)) ws ≡ encode_words reg =
      take_eight ws (length (record_words 0 ms)) (omega (arith, z.inside, z.least))
      ∙ rw (r.size, c.0, c.1, f, ln, s.size, h.word6, h.word7, lr, ← r.words) in
      (rw g e, omega arith)

  sound_proper
      : Counts ws → Sizes (slice_index ws 3) (slice_index ws 4) (length records) (length names) → RecordsPass (body ws) (take (slice_index ws 4) names) (slice_index ws 0) 0
      → Slots (slice_index ws 5) missing → proper reg ≡ true
  unfolding read_register
  sound_proper h z r s =
      parts-proper reg record { count = rw r.size h.count; modules = r.proper; few = rw s.size h.kept; kept = s.proper }

  sound_encodes
      : Counts ws → Sizes (slice_index ws 3) (slice_index ws 4) (length records) (length names) → RecordsPass (body ws) (take (slice_index ws 4) names) (slice_index ws 0) 0
      → Slots (slice_index ws 5) missing → length missing ≡ 32896 → all_zero (drop (slice_index ws 3) records) ≡ true
      → all_zero (drop (slice_index ws 4) names) ≡ true → all_zero (drop (514 * slice_index ws 5) missing) ≡ true → encodes records names missing reg ≡ true
  unfolding encodes read_register
  sound_encodes h z r s lm zr zn zm =
      let w = sound_words h z r s in
      let ln : length (record_names ms) ≡ slice_index_or ws 4 0 = ap length (sym r.bytes) ∙ length-take-le (slice_index ws 4) names z.named-inside in
      let lk : length (slots (read_slots (slice_index ws 5) missing)) ≡ 514 * slice_index_or ws 5 0 =
      length-slots (read_slots (slice_index ws 5) missing) s.proper ∙ ap (λ n. 514 * n) s.size in
      let a : same (take (length (encode_words reg)) ws) (encode_words reg) ≡ true = rw w.0 (same_refl (encode_words reg)) in
      let b : all_zero (drop (4 * length (encode_words reg)) records) ≡ true = rw w.1 zr in
      let c : holds names (record_names ms) ≡ true =
      holds_made names (record_names ms) (ap (λ n. take n names) ln ∙ r.bytes) (rw ln zn) in
      let d : holds missing (slots (read_slots (slice_index ws 5) missing)) ≡ true =
      holds_made missing (slots (read_slots (slice_index ws 5) missing)) (ap (λ n. take n missing) lk ∙ s.bytes_are) (rw lk zm) in
      also (also a b) (also c (also (eq-eqb (length missing) 32896 lm) d))

  sound : passes records names missing ≡ true → is_register records names missing ≡ true
  unfolding passes checked contents_ok is_register register_of
  sound e =
      let u = slice_index_or ws 3 0 in
      let n = slice_index_or ws 4 0 in
      let k = slice_index_or ws 5 0 in
      let zs : Bool = all_zero (drop u records) && (all_zero (drop n names) && all_zero (drop (514 * k) missing)) in
      let m : Bool = modules_ok (slice_index ws 0) (words_in (part records 32 (u - 32))) (take n names) 0 in
      let cs : Bool = m && (slots_ok k missing && zs) in
      let a = both (nat_le 32 (length records)) (counts_ok ws && (sizes_ok u n (length records) (length names) && (length missing == 32896 && cs))) e in
      let b = both (counts_ok ws) (sizes_ok u n (length records) (length names) && (length missing == 32896 && cs)) a.1 in
      let c = both (sizes_ok u n (length records) (length names)) (length missing == 32896 && cs) b.1 in
      let d = both (length missing == 32896) cs c.1 in
      let f = both m (slots_ok k missing && zs) d.1 in
      let g = both (slots_ok k missing) zs f.1 in
      let x = both (all_zero (drop u records)) (all_zero (drop n names) && all_zero (drop (514 * k) missing)) g.1 in
      let y = both (all_zero (drop n names)) (all_zero (drop (514 * k) missing)) x.1 in
      let h = counts ws b.0 in
      let z = sizes u n (length records) (length names) c.0 in
      let lm : length missing ≡ 32896 = eqb-true (length missing) 32896 d.0 in
      let r = modules_sound (slice_index ws 0) (body ws) (take n names) 0 (rw (body_is records z.least z.aligned) at f.0) in
      let s = slots_sound k missing (omega (arith, h.kept)) small g.0 in
      also (sound_proper h z r s) (sound_encodes h z r s lm x.0 y.0 y.1)

-- what encodes a proper register passes, and is read back

module _ (records names missing : List ℕ) (r : Register) (p : proper r ≡ true) (e : encodes records names missing r ≡ true) where
  abbrev w : List ℕ
  w = settled (words_in records)

  own : Proper r
  own = proper-parts r p

  -- what each buffer holds
  record Parts : Type 0 where
    words : take (length (encode_words r)) (settled (words_in records)) ≡ encode_words r
    rest : all_zero (drop (4 * length (encode_words r)) records) ≡ true
    named : take (length (record_names r.modules)) names ≡ record_names r.modules
    unnamed : all_zero (drop (length (record_names r.modules)) names) ≡ true
    size : length missing ≡ 32896
    slotted : take (length (slots r.missing)) missing ≡ slots r.missing
    unslotted : all_zero (drop (length (slots r.missing)) missing) ≡ true

  parts : Parts
  unfolding encodes
  parts =
      let t₀ : Bool = same (take (length (encode_words r)) (settled (words_in records))) (encode_words r) in
      let t₁ : Bool = all_zero (drop (4 * length (encode_words r)) records) in
      let t₂ : Bool = holds names (record_names r.modules) in
      let t₃ : Bool = nat_eq (length missing) 32896 in
      let t₄ : Bool = holds missing (slots r.missing) in
      let d = both (t₀ && t₁) (t₂ && (t₃ && t₄)) e in
      let f = both t₀ t₁ d.0 in
      let g = both t₂ (t₃ && t₄) d.1 in
      let h = both t₃ t₄ g.1 in
      let n = holds_parts names (record_names r.modules) g.0 in
      let m = holds_parts missing (slots r.missing) h.1 in
      record {
        words = same_true (take (length (encode_words r)) (settled (words_in records))) (encode_words r) f.0;
        rest = f.1;
        named = n.0;
        unnamed = n.1;
        size = eqb-true (length missing) 32896 h.0;
        slotted = m.0;
        unslotted = m.1;
      }

  abbrev n : ℕ
  n = length (record_words 0 r.modules)

  pub size-words : length (encode_words r) ≡ 8 + n
  unfolding encode_words
  size-words = omega arith

  word : (k : ℕ) → k < 8 → slice_index w k ≡ slice_index (encode_words r) k
  word k h = begins-at (encode_words r) w parts.words k (omega (arith, size-words))

  pub long : (8 + n ≤ length w) × (4 * (8 + n) ≤ length records)
  long =
      let a = begins_long (encode_words r) w parts.words in
      let b = size-words in
      let c : length w ≡ length records / 4 = length-settled (words_in records) ∙ length-words records in
      (omega arith, omega arith)

  pub word₀ : slice_index_or w 0 0 ≡ length r.modules
  unfolding encode_words
  word₀ = word 0 (omega arith)

  pub word₁ : slice_index_or w 1 0 ≡ crs_known r.crs
  unfolding encode_words
  word₁ = word 1 (omega arith)

  pub word₂ : slice_index_or w 2 0 ≡ crs_base r.crs
  unfolding encode_words
  word₂ = word 2 (omega arith)

  pub word₃ : slice_index_or w 3 0 ≡ 4 * (8 + n)
  unfolding encode_words
  word₃ = word 3 (omega arith)

  pub word₄ : slice_index_or w 4 0 ≡ length (record_names r.modules)
  unfolding encode_words
  word₄ = word 4 (omega arith)

  pub word₅ : slice_index_or w 5 0 ≡ length r.missing
  unfolding encode_words
  word₅ = word 5 (omega arith)

  word₆ : slice_index_or w 6 0 ≡ 0
  unfolding encode_words
  word₆ = word 6 (omega arith)

  word₇ : slice_index_or w 7 0 ≡ 0
  unfolding encode_words
  word₇ = word 7 (omega arith)

  body-words : body w ≡ record_words 0 r.modules
  unfolding body encode_words
  body-words =
      let m : slice_index_or w 3 0 / 4 - 8 ≡ n = omega (arith, word₃) in
      let e : take (8 + n) w ≡ encode_words r = ap (λ k. take k w) (sym size-words) ∙ parts.words in
      rw m (ap (drop 8) (sym (take_eight w n (omega (arith, long.0))) ∙ e))

  names-used : take (slice_index w 4) names ≡ record_names r.modules
  names-used = rw word₄ parts.named

  modules_stored : RecordsBack (record_words 0 r.modules) (record_names r.modules) 0 r.modules
  modules_stored = modules_complete r.modules (record_names r.modules) [] 0 refl refl own.modules

  slots_kept : SlotsHold r.missing missing
  slots_kept =
      let s = slots_complete r.missing (drop (length (slots r.missing)) missing) own.kept in
      let m : missing ≡ slots r.missing ++ drop (length (slots r.missing)) missing =
      sym (take-append-drop (length (slots r.missing)) missing) ∙ ap (λ t. t ++ drop (length (slots r.missing)) missing) parts.slotted in
      subst (SlotsHold r.missing) (sym m) s

  pub read_back_lem : register_of records names missing ≡ r
  unfolding register_of read_register
  read_back_lem =
      rw (word₁, word₂, crs-back r.crs, word₅, slots_kept.back, word₀, body-words, names-used, modules_stored.back)

  counts_pass : counts_ok w ≡ true
  unfolding counts_ok
  counts_pass =
      rw (word₀, word₅, word₆, word₇, word₁, word₂)
      (also (le-leb (length r.modules) 64 own.count) (also (le-leb (length r.missing) 64 own.few) (crs-passes r.crs)))

  sizes_pass : sizes_ok (slice_index w 3) (slice_index w 4) (length records) (length names) ≡ true
  unfolding sizes_ok
  sizes_pass =
      let l = begins_long (record_names r.modules) names parts.named in
      rw (word₃, word₄)
      (also (le-leb 32 (4 * (8 + n)) (omega arith))
      (also (le-leb (4 * (8 + n)) (length records) long.1)
      (also (eq-eqb (4 * (8 + n) % 4) 0 (omega arith)) (le-leb (length (record_names r.modules)) (length names) l))))

  contents_pass : contents_ok (slice_index w 0) (slice_index w 3) (slice_index w 4) (slice_index w 5) records names missing ≡ true
  unfolding contents_ok
  contents_pass =
      let b : words_in (part records 32 (slice_index w 3 - 32)) ≡ record_words 0 r.modules =
      body_is records (omega (arith, word₃)) (omega (arith, word₃)) ∙ body-words in
      let u : slice_index_or w 3 0 ≡ 4 * length (encode_words r) = word₃ ∙ ap (λ k. 4 * k) (sym size-words) in
      let k : 514 * length r.missing ≡ length (slots r.missing) = sym (length-slots r.missing own.kept) in
      rw (b, u, names-used, word₄, word₅, k, word₀)
      (also modules_stored.end (also slots_kept.passes (also parts.rest (also parts.unnamed parts.unslotted))))

  pub complete : passes records names missing ≡ true
  unfolding passes checked
  complete =
      also (le-leb 32 (length records) (omega (arith, long.1)))
      (also counts_pass (also sizes_pass (also (eq-eqb (length missing) 32896 parts.size) contents_pass)))

-- a register's buffers: what is read from them is proper and they encode it; and what encodes a proper register is one

pub register-parts
    : (records names missing : List ℕ) → is_register records names missing ≡ true
    → (proper (register_of records names missing) ≡ true) × (encodes records names missing (register_of records names missing) ≡ true)
unfolding is_register
register-parts records names missing h =
    both (proper (register_of records names missing)) (encodes records names missing (register_of records names missing)) h

pub is_register_lem
    : (records names missing : List ℕ) (r : Register) → proper r ≡ true → encodes records names missing r ≡ true
    → is_register records names missing ≡ true
unfolding is_register
is_register_lem records names missing r p e = rw (read_back_lem records names missing r p e) (also p e)

-- the test is the definition
pub passes_is
    : (records names missing : List ℕ) → ((i : ℕ) → slice_index missing i < 256) → passes records names missing ≡ is_register records names missing
passes_is records names missing small =
    iff_same (passes records names missing) (is_register records names missing) (sound records names missing small) back
  where
    reg : Register
    reg = register_of records names missing

    back : is_register records names missing ≡ true → passes records names missing ≡ true
    back h =
        let a = register-parts records names missing h in
        complete records names missing reg a.0 a.1

-- decode after encode gives the value back
pub decode_encode
    : (records names missing : List ℕ) (r : Register) → proper r ≡ true → encodes records names missing r ≡ true
    → decode records names missing ≡ Some r
unfolding decode is_register
decode_encode records names missing r p e = rw (read_back_lem records names missing r p e, p, e)

-- encode after decode gives the bytes back: they are the encoding of the value, which is proper
pub encode_decode
    : (records names missing : List ℕ) (r : Register) → decode records names missing ≡ Some r
    → (proper r ≡ true) × (encodes records names missing r ≡ true)
unfolding decode is_register
encode_decode records names missing r =
    go (proper reg) (encodes records names missing reg) refl refl
  where
    reg : Register
    reg = register_of records names missing

    go
        : (a b : Bool) → proper reg ≡ a → encodes records names missing reg ≡ b → (if a && b then Some reg else None) ≡ Some r
        → (proper r ≡ true) × (encodes records names missing r ≡ true)
    go true true p e h = let d : reg ≡ r = cc in (rw d at p, rw d at e)
    go true false p e h = let z : ◌≡◌ {A = ℕ} 0 1 = cc in absurd (omega arith)
    go false b p e h = let z : ◌≡◌ {A = ℕ} 0 1 = cc in absurd (omega arith)
