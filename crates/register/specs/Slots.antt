-- The missing list: slots that pass are those of the names read from them, and the slots of names pass.
use Rattle.std.specs.Prelude.{◌≡◌, ℕ, zero, suc, ◌+◌, ◌-◌, ◌*◌, ◌/◌, ◌%◌, ◌<◌, ◌≤◌, true, ◌&&◌, List, [], ◌∷◌, ◌++◌, length, take, drop, replicate, ◌==◌, nat_le, slice_index, slice_index_or}
use Rattle.std.proofs.Math.Path.{refl, ap}
use Rattle.std.proofs.Common.{sym, ◌∙◌, append_assoc, length-append, length-drop, take-append-drop, drop-cons, take_at, drop-drop, take-add, length-take-le, get_or-drop, get_or-take, lit<}
use native.Mathlib.Omega.{arith}
use Rattle.std.proofs.lemmas.List.{length-replicate}
use Rattle.std.proofs.Math.Seq.{drop_at}
use borrow.Author.Tests.{eqb-true, leb-true}
use Rattle.window.specs.Name.{no_zero, is_name}
use Rattle.window.specs.Tests.{both, also}
use Rattle.register.specs.Words.{part, all_zero}
use Rattle.register.specs.Lists.{length_part, part_middle}
use Rattle.register.specs.Module.{proper_names}
use Rattle.register.specs.Encode.{slot, slots}
use Rattle.register.specs.Decode.{slot_length, slot_name, read_slots}
use Rattle.register.specs.Check.{slot_ok, slots_ok}

pub all-zero : (l : List ℕ) → all_zero l ≡ true → l ≡ replicate (length l) 0
unfolding all_zero
all-zero [] e = refl
all-zero (b ∷ l) e = let a = both (b == 0) (all_zero l) e in rw (eqb-true b 0 a.0) (ap (λ t. 0 ∷ t) (all-zero l a.1))

pub zeros : (n : ℕ) → all_zero (replicate n 0) ≡ true
unfolding all_zero
zeros zero = refl
zeros (suc n) = zeros n

pub length-slot : (name : List ℕ) → length name ≤ 512 → length (slot name) ≡ 514
unfolding slot
length-slot name h =
    let a : length (name ++ replicate (512 - length name) 0) ≡ length name + length (replicate {A = ℕ} (512 - length name) 0) =
    length-append name (replicate (512 - length name) 0) in
    let b : length (replicate {A = ℕ} (512 - length name) 0) ≡ 512 - length name = length-replicate (512 - length name) 0 in
    omega arith

two-first : (s : List ℕ) → 2 ≤ length s → s ≡ slice_index s 0 ∷ slice_index s 1 ∷ drop 2 s
two-first s h = drop-cons s 0 0 (omega arith) ∙ ap (λ t. slice_index s 0 ∷ t) (drop-cons s 1 0 (omega arith))

two-parts : (s : List ℕ) (n : ℕ) → drop 2 s ≡ part s 2 n ++ drop (2 + n) s
unfolding part
two-parts s n = sym (take-append-drop n (drop 2 s)) ∙ ap (λ t. take n (drop 2 s) ++ t) (drop-drop n 2 s)

halves : (s : List ℕ) → slice_index s 0 < 256 → (slot_length s % 256 ≡ slice_index s 0) × (slot_length s / 256 ≡ slice_index s 1)
unfolding slot_length
halves s b = (omega arith, omega arith)

-- a slot that passes is the slot of its name
pub slot_sound : (s : List ℕ) → length s ≡ 514 → slice_index s 0 < 256 → slot_ok s ≡ true → (s ≡ slot (slot_name s)) × (is_name (slot_name s) ≡ true)
unfolding slot_ok slot is_name slot_name
slot_sound s l b e =
    let n = slot_length s in
    let a = both (nat_le n 512) (no_zero (part s 2 n) && all_zero (drop (2 + n) s)) e in
    let c = both (no_zero (part s 2 n)) (all_zero (drop (2 + n) s)) a.1 in
    let h : n ≤ 512 = leb-true n 512 a.0 in
    let p : length (part s 2 n) ≡ n = length_part s 2 n (omega arith) in
    let d : length (drop (2 + n) s) ≡ 512 - n = length-drop (2 + n) s ∙ omega arith in
    let r : drop 2 s ≡ part s 2 n ++ replicate (512 - n) 0 = two-parts s n ∙ ap (λ t. part s 2 n ++ t) (all-zero (drop (2 + n) s) c.1 ∙ rw d) in
    let hi : (n % 256 ≡ slice_index s 0) × (n / 256 ≡ slice_index s 1) = halves s b in
    (two-first s (omega arith) ∙ rw (p, hi.0, hi.1, r), rw p (also a.0 c.0))

-- the slot of a name passes, and the name is read from it
module _ (name : List ℕ) (e : is_name name ≡ true) where
  name-short : length name ≤ 512
  unfolding is_name
  name-short = leb-true (length name) 512 (both (nat_le (length name) 512) (no_zero name) e).0

  slot-length : slot_length (slot name) ≡ length name
  unfolding slot_length slot
  slot-length = omega arith

  pub slot-name : slot_name (slot name) ≡ name
  unfolding slot_name slot
  slot-name =
      let z = replicate {A = ℕ} (512 - length name) 0 in
      rw slot-length (part_middle (length name % 256 ∷ length name / 256 ∷ []) name z 2 (length name) refl refl)

  slot-rest : all_zero (drop (2 + length name) (slot name)) ≡ true
  unfolding slot
  slot-rest =
      let b = length name % 256 ∷ length name / 256 ∷ [] in
      let z = replicate {A = ℕ} (512 - length name) 0 in
      let d : drop (2 + length name) (b ++ (name ++ z)) ≡ z =
      ap (λ t. drop (2 + length name) t) (sym (append_assoc b name z)) ∙ drop_at (b ++ name) z (2 + length name) (length-append b name) in
      rw d (zeros (512 - length name))

  pub slot-passes : slot_ok (slot name) ≡ true
  unfolding slot_ok is_name
  slot-passes =
      let a = both (nat_le (length name) 512) (no_zero name) e in
      rw (slot-length, slot-name) (also a.0 (also a.1 slot-rest))

-- so for a whole list
pub record Slots (n : ℕ) (bytes : List ℕ) : Type 0 where
  pub bytes_are : take (514 * n) bytes ≡ slots (read_slots n bytes)
  pub proper : proper_names (read_slots n bytes) ≡ true
  pub size : length (read_slots n bytes) ≡ n

pub slots_sound
    : (n : ℕ) (bytes : List ℕ) → 514 * n ≤ length bytes → ((i : ℕ) → slice_index bytes i < 256) → slots_ok n bytes ≡ true → Slots n bytes
unfolding slots_ok slots read_slots proper_names
slots_sound zero bytes l b e = record { bytes_are = refl; proper = refl; size = refl }
slots_sound (suc n) bytes l b e =
    let a = both (slot_ok (take 514 bytes)) (slots_ok n (drop 514 bytes)) e in
    let d : length (drop 514 bytes) ≡ length bytes - 514 = length-drop 514 bytes in
    let i = slots_sound n (drop 514 bytes) (omega arith) (λ k. rw get_or-drop (b (514 + k))) a.1 in
    let g : slice_index_or (take 514 bytes) 0 0 ≡ slice_index_or bytes 0 0 = get_or-take 514 bytes 0 0 (lit< tt) in
    let s = slot_sound (take 514 bytes) (length-take-le 514 bytes (omega arith)) (rw g (b 0)) a.0 in
    let m : 514 * suc n ≡ 514 + 514 * n = omega arith in
    record {
      bytes_are = rw (m, take-add 514 (514 * n) bytes, i.bytes_are) (ap (λ t. t ++ slots (read_slots n (drop 514 bytes))) s.0);
      proper = also s.1 i.proper;
      size = ap suc i.size;
    }

pub record SlotsHold (ns : List (List ℕ)) (bytes : List ℕ) : Type 0 where
  pub passes : slots_ok (length ns) bytes ≡ true
  pub back : read_slots (length ns) bytes ≡ ns

pub slots_complete : (ns : List (List ℕ)) (rest : List ℕ) → proper_names ns ≡ true → SlotsHold ns (slots ns ++ rest)
unfolding slots_ok slots read_slots proper_names
slots_complete [] rest e = record { passes = refl; back = refl }
slots_complete (n ∷ ns) rest e =
    let a = both (is_name n) (proper_names ns) e in
    let l : length (slot n) ≡ 514 = length-slot n (name-short n a.0) in
    let x : slot n ++ slots ns ++ rest ≡ slot n ++ (slots ns ++ rest) = append_assoc (slot n) (slots ns) rest in
    let t : take 514 (slot n ++ (slots ns ++ rest)) ≡ slot n = take_at (slot n) (slots ns ++ rest) 514 l in
    let d : drop 514 (slot n ++ (slots ns ++ rest)) ≡ slots ns ++ rest = drop_at (slot n) (slots ns ++ rest) 514 l in
    let i = slots_complete ns rest a.1 in
    record {
      passes = rw (x, t, d) (also (slot-passes n a.0) i.passes);
      back = rw (x, t, d, slot-name n a.0, i.back);
    }

pub length-slots : (ns : List (List ℕ)) → proper_names ns ≡ true → length (slots ns) ≡ 514 * length ns
unfolding slots proper_names
length-slots [] e = refl
length-slots (n ∷ ns) e =
    let a = both (is_name n) (proper_names ns) e in
    let l : length (slot n) ≡ 514 = length-slot n (name-short n a.0) in
    let i = length-slots ns a.1 in
    length-append (slot n) (slots ns) ∙ omega arith
