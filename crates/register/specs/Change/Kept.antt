-- The CRS made known, and a missing name more: the bytes then encode the changed register, and are a register again.
use Rattle.std.specs.Prelude.{if◌then◌else◌, ◌≡◌, ℕ, ◌+◌, ◌-◌, ◌*◌, ◌/◌, ◌%◌, ◌^◌, ◌<◌, ◌≤◌, Bool, true, false, List, [], ◌∷◌, ◌++◌, length, drop, replicate, nat_le, nat_lt, slice_index_or}
use Rattle.std.proofs.Math.Path.{refl}
use Rattle.std.proofs.Common.{sym, ap, ◌∙◌, append_assoc, append-nil, arith, length-append, drop_at, leb-true, ltb-true, le-ltb, le-leb, eq-eqb}
use Rattle.std.proofs.lemmas.List.{length-replicate, replicate-append-replicate, set-get_or}
use Rattle.std.proofs.lemmas.List.Edits.{sets, sets-eq}
use Rattle.std.proofs.Math.Seq.{length-sets, take-append_seam, drop-append-add}
use Rattle.window.specs.Name.{is_name, no_zero}
use Rattle.window.specs.Bytes.{join}
use Rattle.window.specs.Word.{word_in, set_word_in}
use Rattle.window.specs.Tests.{both, also}
use Rattle.register.specs.Words.{holds, bytes_of, words_in, word_row}
use Rattle.register.specs.Module.{Register, proper, proper_names}
use Rattle.register.specs.Proper.{Proper, proper-parts, parts-proper}
use Rattle.register.specs.Encode.{encode_words, crs_known, crs_base, slot, slots}
use Rattle.register.specs.Decode.{settled-other, encodes, register_of, is_register}
use Rattle.register.specs.Slots.{length-slot, length-slots}
use Rattle.register.specs.CheckIs.{long, read_back_lem, word₅, register-parts, is_register_lem}
use Rattle.register.specs.Buffers.{Below, padded, padded-holds, names_are}
use Rattle.register.specs.Change.{with_crs, with_missing}
use Rattle.register.specs.Append.Sets.{sets_inside, store_word}
use Rattle.register.specs.Change.Bytes.{set_crs, put_slot, takes_name, push_missing}
use Rattle.register.specs.Change.Encoded.{header-there, store_encodes}

-- the CRS

module _ (records names missing : List ℕ) (base : ℕ) (b : base < 2 ^ 32) where
  pub crs-encodes : (r : Register) → encodes records names missing r ≡ true → encodes (set_crs records base) names missing (with_crs r base) ≡ true
  unfolding set_crs encode_words with_crs crs_known crs_base
  crs-encodes r e =
      let m = names_are records names missing r e in
      let h : holds missing (slots r.missing) ≡ true = rw m.1 (padded-holds (length missing) (slots r.missing)) in
      rw (le-ltb (length records) 32 (header-there records names missing r e))
      (store_encodes (set_word_in records 4 1) names missing missing (with_crs r (crs_base r.crs)) (with_crs r base) 2 base
      (store_encodes records names missing missing r (with_crs r (crs_base r.crs)) 1 1 e (λ z. omega arith) (λ z. omega arith) (omega arith)
      (omega arith)
      refl
      refl
      m.2
      h)
      (λ z. omega arith)
      (λ z. omega arith)
      (omega arith)
      b
      refl
      refl
      m.2
      h)

  -- the register that is then read
  pub crs_kept
      : is_register records names missing ≡ true
      → (is_register (set_crs records base) names missing ≡ true)
      × (register_of (set_crs records base) names missing ≡ with_crs (register_of records names missing) base)
  unfolding proper with_crs
  crs_kept h =
      let p = register-parts records names missing h in
      let e = crs-encodes (register_of records names missing) p.1 in
      let r = with_crs (register_of records names missing) base in
      (is_register_lem (set_crs records base) names missing r p.0 e, read_back_lem (set_crs records base) names missing r p.0 e)

-- a missing name more

drop-zeros : (n k : ℕ) → k ≤ n → drop k (replicate {A = ℕ} n 0) ≡ replicate (n - k) 0
drop-zeros n k h =
    let m : k + (n - k) ≡ n = omega arith in
    let e : replicate {A = ℕ} n 0 ≡ replicate k 0 ++ replicate (n - k) 0 = sym (replicate-append-replicate k (n - k) 0 ∙ ap (λ t. replicate t 0) m) in
    rw e (drop_at (replicate k 0) (replicate (n - k) 0) k (length-replicate k 0))

slots-more : (ns : List (List ℕ)) (name : List ℕ) → slots (ns ++ (name ∷ [])) ≡ slots ns ++ slot name
unfolding slots
slots-more [] name = append-nil (slot name)
slots-more (n ∷ ns) name = ap (λ t. slot n ++ t) (slots-more ns name) ∙ sym (append_assoc (slot n) (slots ns) (slot name))

pub names_more : (ns : List (List ℕ)) (name : List ℕ) → proper_names ns ≡ true → is_name name ≡ true → proper_names (ns ++ (name ∷ [])) ≡ true
unfolding proper_names
names_more [] name p g = also g refl
names_more (n ∷ ns) name p g = let a = both (is_name n) (proper_names ns) p in also a.0 (names_more ns name a.1 g)

name-short : (name : List ℕ) → is_name name ≡ true → length name ≤ 512
unfolding is_name
name-short name g = leb-true (length name) 512 (both (nat_le (length name) 512) (no_zero name) g).0

slot-put
    : (ns : List (List ℕ)) (name : List ℕ) → proper_names ns ≡ true → length ns < 64 → is_name name ≡ true
    → put_slot (padded 32896 (slots ns)) (514 * length ns) name ≡ padded 32896 (slots (ns ++ (name ∷ [])))
unfolding put_slot padded slot
slot-put ns name p few g =
    let a = slots ns in
    let v = length name % 256 ∷ length name / 256 ∷ name in
    let z = 32896 - length a in
    let k = 512 - length name in
    let s : length name ≤ 512 = name-short name g in
    let la : length a ≡ 514 * length ns = length-slots ns p in
    let lz : length (a ++ replicate z 0) ≡ 32896 = length-append a (replicate z 0) ∙ rw (length-replicate) (omega arith) in
    let ls : length (a ++ slot name) ≡ length a + 514 = length-append a (slot name) ∙ ap (λ n. length a + n) (length-slot name s) in
    let d : drop (length a + length v) (a ++ replicate z 0) ≡ replicate (z - length v) 0 =
    rw drop-append-add (drop-zeros z (length v) (omega arith)) in
    let m : z - length v ≡ k + (32896 - length (a ++ slot name)) = omega arith in
    rw (slots-more ns name, ← la)
    (sets-eq v (a ++ replicate z 0) (length a) (omega arith)
    ∙ rw (take-append_seam, d, m, ← replicate-append-replicate {A = ℕ} k (32896 - length (a ++ slot name)) 0) (simp append_assoc))

push_proper : (r : Register) (name : List ℕ) → proper r ≡ true → is_name name ≡ true → proper (with_missing r name) ≡ true
unfolding with_missing
push_proper r name p g = parts-proper (with_missing r name) (go (nat_lt (length r.missing) 64) refl)
  where
    a : Proper r
    a = proper-parts r p

    go
        : (t : Bool) → nat_lt (length r.missing) 64 ≡ t
        → Proper record { modules = r.modules; crs = r.crs; missing = if t then r.missing ++ (name ∷ []) else r.missing }
    go true q =
        let l = ltb-true (length r.missing) 64 q in
        let n : length (r.missing ++ (name ∷ [])) ≡ length r.missing + 1 = length-append r.missing (name ∷ []) in
        record { count = a.count; modules = a.modules; few = omega arith; kept = names_more r.missing name a.kept g }
    go false q = a

length-put : (missing : List ℕ) (place : ℕ) (name : List ℕ) → length (put_slot missing place name) ≡ length missing
unfolding put_slot
length-put missing place name = length-sets missing place (length name % 256 ∷ length name / 256 ∷ name)

-- word 5 counts the missing names
count_word
    : (records names missing : List ℕ) (r : Register) → proper r ≡ true → encodes records names missing r ≡ true
    → word_in records 20 ≡ length r.missing
count_word records names missing r p e =
    word_row records 5 (omega (arith, (long records names missing r p e).1))
    ∙ sym (settled-other (words_in records) 5 (λ z. omega arith))
    ∙ word₅ records names missing r p e

-- a word written where it stands
word_again : (l : List ℕ) (i : ℕ) → Below 256 l → set_word_in l i (word_in l i) ≡ l
unfolding set_word_in word_in
word_again l i b =
    let a₀ = slice_index_or l i 0 in
    let a₁ = slice_index_or l (i + 1) 0 in
    let a₂ = slice_index_or l (i + 2) 0 in
    let a₃ = slice_index_or l (i + 3) 0 in
    let q₁ : join a₀ a₁ a₂ a₃ / 256 ≡ a₁ + 256 * (a₂ + 256 * a₃) = omega (arith, b i) in
    let q₂ : (a₁ + 256 * (a₂ + 256 * a₃)) / 256 ≡ a₂ + 256 * a₃ = omega (arith, b (i + 1)) in
    let q₃ : (a₂ + 256 * a₃) / 256 ≡ a₃ = omega (arith, b (i + 2)) in
    let e₀ : join a₀ a₁ a₂ a₃ % 256 ≡ a₀ = omega (arith, b i) in
    let e₁ : (a₁ + 256 * (a₂ + 256 * a₃)) % 256 ≡ a₁ = omega (arith, b (i + 1)) in
    let e₂ : (a₂ + 256 * a₃) % 256 ≡ a₂ = omega (arith, b (i + 2)) in
    let e₃ : a₃ % 256 ≡ a₃ = omega (arith, b (i + 3)) in
    rw (q₁, q₂, q₃, e₀, e₁, e₂, e₃, set-get_or l i 0, set-get_or l (i + 1) 0, set-get_or l (i + 2) 0, set-get_or l (i + 3) 0)

-- a word written twice
pub word_twice : (l : List ℕ) (i a b : ℕ) → set_word_in (set_word_in l i a) i b ≡ set_word_in l i b
unfolding bytes_of
word_twice l i a b =
    let z : i ≡ i + 0 = omega arith in
    store_word (set_word_in l i a) i b
    ∙ ap (λ t. sets t i (bytes_of b)) (store_word l i a)
    ∙ ap (λ k. sets (sets l i (bytes_of a)) k (bytes_of b)) z
    ∙ sets_inside l i (bytes_of a) 0 (bytes_of b) (omega arith)
    ∙ sym (store_word l i b)

pub count_again
    : (records names missing : List ℕ) → Below 256 records → is_register records names missing ≡ true
    → set_word_in records 20 (length (register_of records names missing).missing) ≡ records
count_again records names missing b h =
    let p = register-parts records names missing h in
    rw (← count_word records names missing (register_of records names missing) p.0 p.1) (word_again records 20 b)

module _ (records names missing name : List ℕ) (g : is_name name ≡ true) where
  abbrev pushed : List ℕ × List ℕ
  pushed = push_missing records missing name

  -- the lengths are those of a register and of a name
  takes : (r : Register) → encodes records names missing r ≡ true → takes_name (length records) (length missing) (length name) ≡ true
  unfolding takes_name
  takes r e =
      also (le-leb 32 (length records) (header-there records names missing r e))
      (also (eq-eqb (length missing) 32896 (names_are records names missing r e).2) (le-leb (length name) 512 (name-short name g)))

  abbrev step : Bool → ℕ → List ℕ × List ℕ
  step t n = if t then (set_word_in records 20 (n + 1), put_slot missing (514 * n) name) else (records, missing)

  pub push_encodes
      : (r : Register) → proper r ≡ true → encodes records names missing r ≡ true
      → encodes pushed.0 names pushed.1 (with_missing r name) ≡ true
  unfolding push_missing with_missing encode_words
  push_encodes r p e =
      rw (takes r e, count_word records names missing r p e) (go (nat_lt (length r.missing) 64) refl)
    where
      ns : List (List ℕ)
      ns = r.missing

      go
          : (t : Bool) → nat_lt (length ns) 64 ≡ t
          → encodes (step t (length ns)).0 names (step t (length ns)).1
          record { modules = r.modules; crs = r.crs; missing = if t then ns ++ (name ∷ []) else ns }
          ≡ true
      go true q =
          let few : length ns < 64 = ltb-true (length ns) 64 q in
          let m = names_are records names missing r e in
          let a : missing ≡ padded 32896 (slots ns) = m.1 ∙ ap (λ n. padded n (slots ns)) m.2 in
          let x : put_slot missing (514 * length ns) name ≡ padded 32896 (slots (ns ++ (name ∷ []))) =
          ap (λ t. put_slot t (514 * length ns) name) a ∙ slot-put ns name (proper-parts r p).kept few g in
          let l : length (put_slot missing (514 * length ns) name) ≡ 32896 = length-put missing (514 * length ns) name ∙ m.2 in
          let h : holds (put_slot missing (514 * length ns) name) (slots (ns ++ (name ∷ []))) ≡ true =
          rw x (padded-holds 32896 (slots (ns ++ (name ∷ [])))) in
          let r' : Register = record { modules = r.modules; crs = r.crs; missing = ns ++ (name ∷ []) } in
          let n : length (ns ++ (name ∷ [])) ≡ length ns + 1 = length-append ns (name ∷ []) in
          store_encodes records names missing (put_slot missing (514 * length ns) name) r r' 5 (length ns + 1) e (λ z. omega arith) (λ z. omega arith)
          (omega arith)
          (omega arith)
          (rw n)
          refl
          l
          h
      go false q = e

  pub push-Kept
      : is_register records names missing ≡ true
      → (is_register pushed.0 names pushed.1 ≡ true)
      × (register_of pushed.0 names pushed.1 ≡ with_missing (register_of records names missing) name)
  push-Kept h =
      let r = register_of records names missing in
      let p = register-parts records names missing h in
      let e = push_encodes r p.0 p.1 in
      let q = push_proper r name p.0 g in
      (is_register_lem pushed.0 names pushed.1 (with_missing r name) q e, read_back_lem pushed.0 names pushed.1 (with_missing r name) q e)

  -- of the records word 5 alone is another
  pub push_counts
      : Below 256 records → is_register records names missing ≡ true
      → pushed.0 ≡ set_word_in records 20 (length (with_missing (register_of records names missing) name).missing)
  unfolding push_missing with_missing
  push_counts b h =
      let p = register-parts records names missing h in
      rw (takes r p.1, count_word records names missing r p.0 p.1) (go (nat_lt (length r.missing) 64))
    where
      r : Register
      r = register_of records names missing

      go : (t : Bool) → (step t (length r.missing)).0 ≡ set_word_in records 20 (length (if t then r.missing ++ (name ∷ []) else r.missing))
      go true = rw (length-append r.missing (name ∷ []))
      go false = sym (count_again records names missing b h)
