-- From the code's loops and tests to the definitions of `Draft`.
use Rattle.std.specs.Prelude.{if◌then◌else◌, Option, Some, None}
use Rattle.std.proofs.Common.{◌⊎◌, inl, inr, append_assoc, drop-drop, take-append-drop, ◌≡◌, ℕ, min, suc, ◌+◌, ◌-◌, ◌%◌, ◌^◌, ◌<◌, ◌≤◌, Bool, true, false, leb, List, [], ◌∷◌, ◌++◌, length, take, drop, replicate, sym, refl, ap, ◌∙◌, arith, length-drop, drop_of_length-le, length-take-le, le-ltb, lt-ltb, le-leb}
use native.Mathlib.Decide.{dec_le}
use Rattle.std.proofs.Math.Nat.{min-eq_left, min-eq_right}
use Rattle.std.proofs.lemmas.List.{take-replicate, length-replicate}
use lib.Seq.{paste, sets, sets-eq, set_out, length-sets}
use borrow.Rule.Slice.PartMut.{put_mid}
use borrow.Author.Tests.{lt-leb}
use Rattle.window.specs.Word.{word_in, set_word_in}
use Rattle.register.specs.declared.append.draft.Draft.{Draft}
use Rattle.register.specs.Words.{part, flat}
use Rattle.register.specs.Buffers.{length-flat}
use Rattle.register.specs.Append.Sets.{sets_append, sets_before, two-words}
use Rattle.register.specs.Append.Draft.{room_in, room-inside, room_word, longer, push_word, opened, opened-parts, count_up, push_listed, export_fits, finish_record}

-- past the end nothing is stored
pub sets_past : (b vs : List ℕ) (i : ℕ) → length b ≤ i → b ≡ sets b i vs
sets_past b [] i h = refl
sets_past b (v ∷ vs) i h = sets_past b vs (suc i) (omega arith) ∙ ap (λ t. sets t (suc i) vs) (sym (set_out b i v h))

-- n bytes put in the place of those from `to` on
pub pasted : (l : List ℕ) (to n : ℕ) (vs : List ℕ) → n ≤ length vs → to + n ≤ length l → paste l to vs n ≡ sets l to (take n vs)
pasted l to n vs h g =
    let m : length (take n vs) ≡ n = length-take-le n vs h in
    sym (sets-eq (take n vs) l to (omega (arith, m)) ∙ ap (λ k. take to l ++ take n vs ++ drop (to + k) l) m)

-- a copy within the bytes
pub copied_within
    : (l : List ℕ) (from to n : ℕ) → from + n ≤ length l → to + n ≤ length l → paste l to (drop from l) n ≡ sets l to (part l from n)
unfolding part
copied_within l from to n h g = pasted l to n (drop from l) (omega (arith, length-drop from l)) g

-- those of a run that the bytes have room for, written over a part of them
pub put_run
    : (l vs : List ℕ) (from n : ℕ) → from + n ≤ length l → n ≤ length vs → ((n ≡ length vs) ⊎ (from + n ≡ length l))
    → put_mid from n l (take n vs) ≡ sets l from vs
put_run l vs from n h g whole =
    let m : length (take n vs) ≡ n = length-take-le n vs g in
    let some : put_mid from n l (take n vs) ≡ sets l from (take n vs) =
    sym (sets-eq (take n vs) l from (omega (arith, m)) ∙ append_assoc (take from l) (take n vs) (drop (from + length (take n vs)) l)
    ∙ ap (λ t. take from l ++ (take n vs ++ t)) (ap (λ k. drop (from + k) l) m ∙ sym (drop-drop n from l))) in
    some ∙ rest whole ∙ sym (sets_append l from (take n vs) (drop n vs)) ∙ ap (sets l from) (take-append-drop n vs)
  where
    rest : ((n ≡ length vs) ⊎ (from + n ≡ length l)) → sets l from (take n vs) ≡ sets (sets l from (take n vs)) (from + length (take n vs)) (drop n vs)
    rest w = elim w [
      | inl e ↦ (let over : length vs ≤ n = omega (arith, e) in rw (drop_of_length-le vs over))
      | inr e ↦ sets_past (sets l from (take n vs)) (drop n vs) (from + length (take n vs))
          (omega (arith, e, length-take-le n vs g, length-sets l from (take n vs)))
    ]

-- zeros from `from` up to `to`, as far as there are bytes

least : (a b n : ℕ) → n ≡ min a b → (n ≤ a) × (n ≤ b) × ((n ≡ a) ⊎ (n ≡ b))
least a b n e = elim (dec_le a b) [
  | yes l ↦ let m : n ≡ a = e ∙ min-eq_left l in (omega (arith, m), omega (arith, m), inl m)
  | no l ↦ let m : n ≡ b = e ∙ min-eq_right (omega arith) in (omega (arith, m), omega (arith, m), inr m)
]

module _ (l : List ℕ) (from to end : ℕ) (e : end ≡ min to (length l)) where
  pub clear_some
      : {zeros : List ℕ} → from < end → zeros ≡ replicate (length (take (end - from) (drop from l))) 0
      → put_mid from (end - from) l zeros ≡ sets l from (replicate (to - from) 0)
  clear_some h f =
      let m = least to (length l) end e in
      let n : length (take (end - from) (drop from l)) ≡ end - from = length-take-le (end - from) (drop from l) (omega (arith, length-drop from l, m.1)) in
      let r : length (replicate {A = ℕ} (to - from) 0) ≡ to - from = length-replicate (to - from) 0 in
      ap (put_mid from (end - from) l) (f ∙ ap (λ k. replicate k 0) n ∙ sym (take-replicate (end - from) (to - from) 0 (omega (arith, m.0))))
      ∙ put_run l (replicate (to - from) 0) from (end - from) (omega (arith, m.1)) (omega (arith, r, m.0))
      (elim m.2 [ inl z ↦ inl (omega (arith, r, z)) | inr z ↦ inr (omega (arith, z)) ])

  pub clear_none : end ≤ from → l ≡ sets l from (replicate (to - from) 0)
  clear_none h = elim (least to (length l) end e).2 [
    | inl z ↦ (let n : to - from ≡ 0 = omega (arith, z) in rw n)
    | inr z ↦ sets_past l (replicate (to - from) 0) from (omega (arith, z))
  ]

-- the source written, as far as there are bytes
pub copy_some
    : (l source : List ℕ) (place n : ℕ) {part : List ℕ} → place ≤ length l → n ≡ min (length source) (length l - place) → part ≡ take n source
    → put_mid place n l part ≡ sets l place source
copy_some l source place n h e f =
    let m = least (length source) (length l - place) n e in
    ap (put_mid place n l) f
    ∙ put_run l source place n (omega (arith, m.1)) m.0 (elim m.2 [ inl z ↦ inl z | inr z ↦ inr (omega (arith, z)) ])

-- two words put where there is a gap for them
pub inserted
    : (l : List ℕ) (o n a₁ a₂ : ℕ) {m w₁ w₂ : List ℕ} → m ≡ sets l (o + 8) (part l o n) → w₁ ≡ set_word_in m o a₁ → w₂ ≡ set_word_in w₁ (o + 4) a₂
    → w₂ ≡ sets l o (flat (a₁ ∷ a₂ ∷ []) ++ part l o n)
inserted l o n a₁ a₂ e p₁ p₂ =
    let ws = a₁ ∷ a₂ ∷ [] in
    let f : o + length (flat ws) ≡ o + 8 = ap (λ k. o + k) (length-flat ws) in
    two-words _ o a₁ a₂ p₁ p₂ ∙ ap (λ t. sets t o (flat ws)) e
    ∙ sets_before l (o + 8) (part l o n) o (flat ws) (omega (arith, f))
    ∙ ap (λ k. sets (sets l o (flat ws)) k (part l o n)) (sym f) ∙ sym (sets_append l o (flat ws) (part l o n))

-- the room, and whether a word fits

pub room_small : (n : ℕ) → n < 0xffff_ffff → n ≡ room_in n
unfolding room_in
room_small n h = rw (lt-ltb n 0xffff_ffff h)

pub room-large : (n : ℕ) → 0xffff_ffff ≤ n → 0xffff_ffff ≡ room_in n
unfolding room_in
room-large n h = rw (le-ltb n 0xffff_ffff h)

module _ (records : List ℕ) (d : Draft) (v : ℕ) {free : ℕ} (e : free ≡ room_in (length records)) where
  pub push_full : free < d.end + 4 → ◌≡◌ {A = Option Draft × List ℕ} (None, records) (push_word records d v)
  unfolding push_word
  push_full h = rw (← e, lt-leb (d.end + 4) free h)

  pub push_open
      : d.end + 4 ≤ free → ◌≡◌ {A = Option Draft × List ℕ} (Some (longer d 4), set_word_in records d.end v) (push_word records d v)
  unfolding push_word
  push_open h = rw (← e, le-leb (d.end + 4) free h)

pub fits_not : (free from count : ℕ) → free < count → false ≡ leb (from + count) free
fits_not free from count h = sym (lt-leb (from + count) free (omega arith))

pub fits_is : (free from count : ℕ) → count ≤ free → leb from (free - count) ≡ leb (from + count) free
fits_is free from count h = elim (dec_le from (free - count)) [
  | yes l ↦ le-leb from (free - count) l ∙ sym (le-leb (from + count) free (omega arith))
  | no l ↦ lt-leb from (free - count) (omega arith) ∙ sym (lt-leb (from + count) free (omega arith))
]

-- whether the draft is open

module _ (records : List ℕ) (d : Draft) {t : Bool} (e : t ≡ leb (d.start + 32) d.end) where
  pub open_not : t ≡ false → false ≡ opened d records
  unfolding opened
  open_not z = rw (← e, z)

  module _ {free : ℕ} (z : t ≡ true) (f : free ≡ room_in (length records)) where
    pub open_past : free < d.end → false ≡ opened d records
    unfolding opened
    open_past h = rw (← e, z, ← f, lt-leb d.end free h)

    pub open_is : d.end ≤ free → leb d.last 0xffff_ffff ≡ opened d records
    unfolding opened
    open_is h = rw (← e, z, ← f, le-leb d.end free h)

-- an open draft's places
pub open_places
    : (records : List ℕ) (d : Draft) {t : Bool} → t ≡ opened d records → t ≡ true
    → (d.start + 32 ≤ d.end) × (d.end ≤ length records) × (d.end < 2 ^ 32) × (d.last < 2 ^ 32)
open_places records d e z =
    let p = opened-parts d records (sym e ∙ z) in
    (p.0, omega (arith, p.1, room-inside (length records)), omega (arith, p.1, room_word (length records)), omega (arith, p.2))

-- a push, seen from its answer

open_same : (a b : Draft) → Some a ≡ Some b → a ≡ b
open_same a b e = cc

pub listed_shut
    : (records : List ℕ) (d : Draft) (v field : ℕ) {t : Bool} → t ≡ opened d records → t ≡ false
    → ◌≡◌ {A = Option Draft × List ℕ} (None, records) (push_listed records d field v)
unfolding push_listed
listed_shut records d v field o z = rw (← o, z)

module _ (records : List ℕ) (d : Draft) (v field : ℕ) {t : Bool} (o : t ≡ opened d records) (y : t ≡ true) {r : Option Draft} {after : List ℕ}
    (e : ◌≡◌ {A = Option Draft × List ℕ} (r, after) (push_word records d v)) where
  pub listed_full : r ≡ None → ◌≡◌ {A = Option Draft × List ℕ} (None, after) (push_listed records d field v)
  unfolding push_word push_listed
  listed_full z = rw (← o, y) (go (leb (d.end + 4) (room_in (length records))) e)
    where
      go
          : (b : Bool) → ◌≡◌ {A = Option Draft × List ℕ} (r, after) (if b then (Some (longer d 4), set_word_in records d.end v) else (None, records))
          → ◌≡◌ {A = Option Draft × List ℕ} (None, after)
          (if b then (Some (longer d 4), count_up (set_word_in records d.end v) (longer d 4) field) else (None, records))
      go true p = let x : r ≡ Some (longer d 4) = ap (λ t. t.0) p in let y : ◌≡◌ {A = ℕ} 0 1 = cc in absurd (omega arith)
      go false p = let x : after ≡ records = ap (λ t. t.1) p in rw x

  pub listed_open : (next : Draft) → r ≡ Some next → ◌≡◌ {A = Option Draft × List ℕ} (Some next, count_up after next field) (push_listed records d field v)
  unfolding push_word push_listed
  listed_open next z = rw (← o, y) (go (leb (d.end + 4) (room_in (length records))) e)
    where
      go
          : (b : Bool) → ◌≡◌ {A = Option Draft × List ℕ} (r, after) (if b then (Some (longer d 4), set_word_in records d.end v) else (None, records))
          → ◌≡◌ {A = Option Draft × List ℕ} (Some next, count_up after next field)
          (if b then (Some (longer d 4), count_up (set_word_in records d.end v) (longer d 4) field) else (None, records))
      go true p =
          let x : after ≡ set_word_in records d.end v = ap (λ t. t.1) p in
          let n : next ≡ longer d 4 = open_same next (longer d 4) (sym z ∙ ap (λ t. t.0) p) in
          rw (x, n)
      go false p = let x : r ≡ None = ap (λ t. t.0) p in let y : ◌≡◌ {A = ℕ} 0 1 = cc in absurd (omega arith)

  pub open_start : (next : Draft) → r ≡ Some next → next.start ≡ d.start
  unfolding push_word longer
  open_start next z = go (leb (d.end + 4) (room_in (length records))) e
    where
      go
          : (b : Bool) → ◌≡◌ {A = Option Draft × List ℕ} (r, after) (if b then (Some (longer d 4), set_word_in records d.end v) else (None, records))
          → next.start ≡ d.start
      go true p = ap (λ t. t.start) (open_same next (longer d 4) (sym z ∙ ap (λ t. t.0) p))
      go false p = let x : r ≡ None = ap (λ t. t.0) p in let y : ◌≡◌ {A = ℕ} 0 1 = cc in absurd (omega arith)

-- whether an export fits

module _ (records names : List ℕ) (d : Draft) (count : ℕ) {free : ℕ} {t : Bool} (e : free ≡ room_in (length records))
    (f : t ≡ leb (d.end + 12) free) where
  pub no_words-fit : t ≡ false → false ≡ export_fits records names d count
  unfolding export_fits
  no_words-fit z = rw (← e, ← f, z)

  pub names-fit
      : {free₂ : ℕ} {s : Bool} → t ≡ true → free₂ ≡ room_in (length names) → s ≡ leb (d.last + count) free₂ → s ≡ export_fits records names d count
  unfolding export_fits
  names-fit z g h = rw (← e, ← f, z, ← g, h)

-- a record finished

module _ (records : List ℕ) (d : Draft) {t : Bool} (o : t ≡ opened d records) where
  pub finish_shut : t ≡ false → records ≡ finish_record records d
  unfolding finish_record
  finish_shut z = rw (← o, z)

  pub finish_done
      : {n m : ℕ} {w₁ w₂ w₃ : List ℕ} → t ≡ true → n ≡ word_in records 0 → m ≡ (n + 1) % 2 ^ 32 → w₁ ≡ set_word_in records 0 m
      → w₂ ≡ set_word_in w₁ 12 d.end → w₃ ≡ set_word_in w₂ 16 d.last → w₃ ≡ finish_record records d
  unfolding finish_record
  finish_done z en em e₁ e₂ e₃ = rw (← o, z, e₃, e₂, e₁, em, en)
