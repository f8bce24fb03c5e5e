-- What an encoded register says: its records stand one after another from byte 32 on, and its counts and missing names are there.
use Rattle.std.specs.Prelude.{if◌then◌else◌, ◌≡◌, ℕ, zero, suc, ◌+◌, ◌*◌, ◌<◌, ◌≤◌, Bool, true, false, ◌&&◌, List, [], ◌∷◌, ◌++◌, length, get_or, take, drop, ◌==◌, slice_index, slice_index_or, slice_set, Some}
use Rattle.std.proofs.Math.Path.{refl, sym, ap}
use Rattle.std.proofs.Common.{◌∙◌, subst, append_assoc, arith, length-append, take-append-drop, drop-set-lt, drop-drop}
use Rattle.std.proofs.Math.Seq.{drop-append_seam}
use Rattle.window.specs.Tests.{both}
use Rattle.register.specs.Words.{part, same, all_zero, holds, words_in, words-drop, length-words}
use Rattle.register.specs.Lists.{same_true}
use Rattle.register.specs.Module.{Module, Register, proper_module, proper_modules, proper}
use Rattle.register.specs.Proper.{Proper, proper-parts}
use Rattle.register.specs.Encode.{module_names, module_words, record_words, record_names, encode_words, slots}
use Rattle.register.specs.Decode.{settled, settled-other, read_register, register_of, encodes, is_register, read_slots, slot_name}
use Rattle.register.specs.CheckComplete.{module_complete}
use Rattle.register.specs.CheckIs.{length-settled, begins_long, register-parts}
use Rattle.register.specs.Buffers.{padded, names_are}
use Rattle.register.specs.Read.Read.{Encoded, modules_of, module_bytes, place_from, record_at, module_at}
use Rattle.register.specs.Read.Places.{module_bytes_lem, RecordStands, RecordsStand, none, next, FirstPassing, placed}

-- a record in front of the words from number i on, with its names in the middle of names
stands
    : (records names : List ℕ) (i q : ℕ) (m : Module) (rest pre post : List ℕ) → drop i (words_in records) ≡ module_words q m ++ rest
    → names ≡ pre ++ (module_names m ++ post) → length pre ≡ q → proper_module m ≡ true → i + length (module_words q m) ≤ length (words_in records)
    → RecordStands records names (4 * i) m
unfolding record_at module_at module_words
stands records names i q m rest pre post ew en lp h l =
    let w = module_complete m rest names pre post q en lp h in
    let e : words_in (drop (4 * i) records) ≡ module_words q m ++ rest = words-drop i records ∙ ew in
    record {
      offset = q;
      words = rw e;
      back = rw e w.back;
      inside = omega (arith, module_bytes_lem q m, length-words records);
      aligned = omega arith;
      proper = h;
    }

standing
    : (ms : List Module) (records names : List ℕ) (i q : ℕ) (rest pre post : List ℕ) → drop i (words_in records) ≡ record_words q ms ++ rest
    → names ≡ pre ++ (record_names ms ++ post) → length pre ≡ q → proper_modules ms ≡ true → i + length (record_words q ms) ≤ length (words_in records)
    → RecordsStand records names (4 * i) ms
unfolding record_words record_names proper_modules
standing [] records names i q rest pre post ew en lp h l = none
standing (m ∷ ms) records names i q rest pre post ew en lp h l =
    let n = length (module_words q m) in
    let q' = q + length (module_names m) in
    let a = both (proper_module m) (proper_modules ms) h in
    let k : length (module_words q m ++ record_words q' ms) ≡ n + length (record_words q' ms) = length-append (module_words q m) (record_words q' ms) in
    let f : drop i (words_in records) ≡ module_words q m ++ (record_words q' ms ++ rest) =
    ew ∙ append_assoc (module_words q m) (record_words q' ms) rest in
    let s =
    stands records names i q m (record_words q' ms ++ rest) pre (record_names ms ++ post) f (en ∙ simp append_assoc) lp a.0 (omega arith) in
    let d : drop (i + n) (words_in records) ≡ record_words q' ms ++ rest =
    sym (drop-drop n i (words_in records)) ∙ rw f (drop-append_seam (module_words q m) (record_words q' ms ++ rest)) in
    let r =
    standing ms records names (i + n) q' rest (pre ++ module_names m) post d (en ∙ simp append_assoc)
    (length-append pre (module_names m) ∙ ap (λ t. t + length (module_names m)) lp)
    a.1 (omega arith) in
    let p : 4 * (i + n) ≡ 4 * i + module_bytes m = omega (arith, module_bytes_lem q m) in
    next s (subst (λ t. RecordsStand records names t ms) p r)

settled-rest : (ws : List ℕ) → drop 8 (settled ws) ≡ drop 8 ws
unfolding settled
settled-rest ws = go (slice_index ws 0 == 0 && slice_index ws 3 == 0)
  where
    go : (b : Bool) → drop 8 (if b then slice_set ws 3 32 else ws) ≡ drop 8 ws
    go true = drop-set-lt 8 ws 3 32 (omega arith)
    go false = refl

slot_at : (n k : ℕ) (bytes : List ℕ) → k < n → slice_index_or (read_slots n bytes) k [] ≡ slot_name (part bytes (514 * k) 514)
unfolding read_slots part
slot_at zero k bytes h = absurd (omega arith)
slot_at (suc n) zero bytes h = refl
slot_at (suc n) (suc k) bytes h =
    let e : 514 + 514 * k ≡ 514 * suc k = omega arith in
    slot_at n k (drop 514 bytes) (omega arith) ∙ ap (λ l. slot_name (take 514 l)) (drop-drop (514 * k) 514 bytes ∙ ap (λ j. drop j bytes) e)

module _ (records names missing : List ℕ) (h : is_register records names missing ≡ true) where
  abbrev ws : List ℕ
  ws = settled (words_in records)

  abbrev reg : Register
  reg = register_of records names missing

  abbrev rest : List ℕ
  rest = drop (length (encode_words reg)) ws

  -- the modules do not depend on the missing list
  pub modules_are : modules_of records names ≡ (register_of records names missing).modules
  unfolding modules_of register_of read_register
  modules_are = refl

  parts : (proper reg ≡ true) × (encodes records names missing reg ≡ true)
  parts = register-parts records names missing h

  own : Proper reg
  own = proper-parts reg parts.0

  encoded_words : take (length (encode_words reg)) ws ≡ encode_words reg
  unfolding encodes
  encoded_words =
      let n = length (encode_words reg) in
      let t₁ : Bool = same (take n ws) (encode_words reg) in
      let t₂ : Bool = all_zero (drop (4 * n) records) in
      let t₃ : Bool = holds names (record_names reg.modules) && (length missing == 32896 && holds missing (slots reg.missing)) in
      same_true (take n ws) (encode_words reg) (both t₁ t₂ (both (t₁ && t₂) t₃ parts.1).0).0

  split : ws ≡ encode_words reg ++ rest
  split = sym (take-append-drop (length (encode_words reg)) ws) ∙ ap (λ t. t ++ rest) encoded_words

  -- "Then one record per module in load order"
  pub modules_stand : RecordsStand records names 32 (modules_of records names)
  unfolding encode_words padded
  modules_stand =
      let ms = reg.modules in
      let e : drop 8 (words_in records) ≡ record_words 0 ms ++ rest = sym (settled-rest (words_in records)) ∙ ap (drop 8) split in
      let l : 8 + length (record_words 0 ms) ≤ length (words_in records) =
      omega (arith, begins_long (encode_words reg) ws encoded_words, length-settled (words_in records)) in
      rw modules_are
      (standing ms records names 8 0 rest [] _ e (names_are records names missing reg parts.1).0 refl own.modules l)

  -- header word 0
  pub module_count : length (modules_of records names) ≡ slice_index (words_in records) 0
  unfolding encode_words
  module_count = ap length modules_are ∙ sym (ap (λ t. slice_index t 0) split) ∙ settled-other (words_in records) 0 (λ e. omega arith)

  -- header word 5
  pub missing_count : length (register_of records names missing).missing ≡ slice_index (words_in records) 5
  unfolding encode_words
  missing_count = sym (ap (λ t. slice_index t 5) split) ∙ settled-other (words_in records) 5 (λ e. omega arith)

  -- missing name number k: its slot is there, and holds it
  pub missing_name
      : (k : ℕ) → k < slice_index (words_in records) 5
      → (514 * k + 514 ≤ length missing)
      × (slot_name (part missing (514 * k) 514) ≡ slice_index_or (register_of records names missing).missing k [])
  unfolding register_of read_register
  missing_name k g =
      let e : get_or ws 5 0 ≡ get_or (words_in records) 5 0 = settled-other (words_in records) 5 (λ e. omega arith) in
      let l : length missing ≡ 32896 = (names_are records names missing reg parts.1).2 in (
        omega (arith, missing_count, own.few),
        sym (slot_at (slice_index ws 5) k missing (omega arith)),
      )

-- what a search over all modules gives
pub first-placed
    : (records names : List ℕ) (test : Module → Bool) {p : ℕ} → Encoded records names
    → place_from 32 (modules_of records names) test ≡ Some p → FirstPassing records names 32 (modules_of records names) test p
first-placed records names test e f = placed 32 (modules_of records names) test (modules_stand records names e.0 e.1) f
