-- A module more, where it fits: the register with it is one that its bytes encode.
use Prim.Native.Nat.{ℕ, zero, suc, ◌+◌, ◌-◌, ◌*◌, ◌^◌, ◌≤◌, ◌<◌}
use Rattle.std.specs.Prelude.{◌≡◌, List, [], ◌∷◌, ◌++◌, Bool, true, false, ◌&&◌, replicate, ltb, leb, Option, Some, None}
use Rattle.std.proofs.Common.{sym, ltb-true, leb-true}
use Rattle.std.proofs.Math.Path.{ap, subst}
use native.Mathlib.Omega.{arith}
use Rattle.std.proofs.Math.ListN.{length, length-append}
use Rattle.window.specs.Bytes.{byte_of-small}
use Rattle.window.specs.Tests.{both}
use Rattle.register.specs.Words.{bytes_of, flat}
use Rattle.register.specs.Module.{Export, Module, Register, proper, proper_module, proper_names}
use Rattle.register.specs.Encode.{slots, export_words, export_names, module_names, module_words, flag, record_words, record_names, encode_words, crs_known, crs_base}
use Rattle.register.specs.Decode.{is_register}
use Rattle.register.specs.Proper.{proper-parts, parts-proper}
use Rattle.register.specs.CheckIs.{is_register_lem}
use Rattle.register.specs.Slots.{length-slots}
use Rattle.register.specs.Change.{appended}
use Rattle.register.specs.Buffers.{Below, padded, length-padded, length-flat, encode_records, encode_names, encode_missing, encode_encodes}
use Rattle.register.specs.Append.Draft.{room_in, room-inside, room_word}
use Rattle.register.specs.Append.Laid.{below_append}
use Rattle.register.specs.Append.Held.{words_long}
use Rattle.register.specs.Append.Append.{names-with, words-with}
use Rattle.register.specs.Append.Stands.{appended-proper}
use Rattle.linker_spec.specs.Calls.{fits}

-- the bytes that a call leaves of r are an encoding
abbrev pub Encoding : ℕ → ℕ → Register → Type 0
Encoding records names r = is_register (encode_records records r) (encode_names names r) (encode_missing r) ≡ true

-- in buffers of just those lengths
abbrev pub Sized : ℕ → ℕ → Register → Type 0
Sized records names r =
    (length (encode_records records r) ≡ records) × (length (encode_names names r) ≡ names) × (length (encode_missing r) ≡ 32896)

abbrev pub Stored : ℕ → ℕ → Register → Type 0
Stored records names r = Encoding records names r × Sized records names r

pub sized
    : (records names : ℕ) (r : Register) → proper r ≡ true → 4 * length (encode_words r) ≤ records → length (record_names r.modules) ≤ names
    → Sized records names r
unfolding encode_records encode_names encode_missing
sized records names r p h g =
    let a = proper-parts r p in (
      length-padded records (flat (encode_words r)) (omega (arith, length-flat (encode_words r))),
      length-padded names (record_names r.modules) g,
      length-padded 32896 (slots r.missing) (omega (arith, a.few, length-slots r.missing a.kept)),
    )

pub stored
    : (records names : ℕ) (r : Register) → proper r ≡ true → 4 * length (encode_words r) ≤ records → length (record_names r.modules) ≤ names
    → Below (2 ^ 32) (encode_words r) → Stored records names r
stored records names r p h g s =
    let a = proper-parts r p in (
      is_register_lem (encode_records records r) (encode_names names r) (encode_missing r) r p
          (encode_encodes records names r h s (omega (arith, a.few, length-slots r.missing a.kept))),
      sized records names r p h g,
    )

-- and bytes again
flat-bytes : (ws : List ℕ) → Below 256 (flat ws)
unfolding flat bytes_of
flat-bytes [] i = omega arith
flat-bytes (v ∷ vs) zero = byte_of-small 0 v
flat-bytes (v ∷ vs) (suc zero) = byte_of-small 1 v
flat-bytes (v ∷ vs) (suc (suc zero)) = byte_of-small 2 v
flat-bytes (v ∷ vs) (suc (suc (suc zero))) = byte_of-small 3 v
flat-bytes (v ∷ vs) (suc (suc (suc (suc i)))) = flat-bytes vs i

zero-bytes : (n : ℕ) → Below 256 (replicate n 0)
zero-bytes zero i = omega arith
zero-bytes (suc n) zero = omega arith
zero-bytes (suc n) (suc i) = zero-bytes n i

pub records-bytes : (n : ℕ) (r : Register) → Below 256 (encode_records n r)
unfolding encode_records padded
records-bytes n r = below_append (flat (encode_words r)) _ 256 (flat-bytes (encode_words r)) (zero-bytes (n - length (flat (encode_words r))))

-- all that a record keeps of a module but names and counts is 32-bit numbers
unfoldable pub Addressed : List Export → Type 0
Addressed [] = Unit {0}
Addressed (x ∷ xs) = (x.address < 2 ^ 32) × Addressed xs

pub record Small (m : Module) : Type 0 where
  pub base : m.base < 2 ^ 32
  pub size : m.size < 2 ^ 32
  pub segments : Below (2 ^ 32) m.segments
  pub named : Addressed m.named
  pub indexed : Below (2 ^ 32) m.indexed

-- then its words are words, if its names end below 2^32 and its words are as few

exports_small : (q : ℕ) (xs : List Export) → Addressed xs → q + length (export_names xs) < 2 ^ 32 → Below (2 ^ 32) (export_words q xs)
unfolding export_words export_names Addressed
exports_small q [] a h i = omega arith
exports_small q (x ∷ xs) a h zero = omega (arith, length-append x.name (export_names xs))
exports_small q (x ∷ xs) a h (suc zero) = omega (arith, length-append x.name (export_names xs))
exports_small q (x ∷ xs) a h (suc (suc zero)) = a.0
exports_small q (x ∷ xs) a h (suc (suc (suc i))) =
    exports_small (q + length x.name) xs a.1 (omega (arith, length-append x.name (export_names xs))) i

flag_small : (b : Bool) → flag b < 2 ^ 32
unfolding flag
flag_small true = omega arith
flag_small false = omega arith

module _ (q : ℕ) (m : Module) (s : Small m) (h : q + length (module_names m) < 2 ^ 32) (g : length (module_words q m) < 2 ^ 32) where
  module_names_lem : length (module_names m) ≡ length m.name + length (export_names m.named)
  unfolding module_names
  module_names_lem = length-append m.name (export_names m.named)

  module_small : Below (2 ^ 32) (module_words q m)
  unfolding module_words
  module_small zero = s.base
  module_small (suc zero) = s.size
  module_small (suc (suc zero)) = flag_small m.auto
  module_small (suc (suc (suc zero))) = omega arith
  module_small (suc (suc (suc (suc zero)))) = omega (arith, module_names_lem)
  module_small (suc (suc (suc (suc (suc zero))))) = omega (arith, words_long q m)
  module_small (suc (suc (suc (suc (suc (suc zero)))))) = omega (arith, words_long q m)
  module_small (suc (suc (suc (suc (suc (suc (suc zero))))))) = omega (arith, words_long q m)
  module_small (suc (suc (suc (suc (suc (suc (suc (suc i)))))))) =
      let ex = export_words (q + length m.name) m.named in
      below_append m.segments (ex ++ m.indexed) (2 ^ 32) s.segments
      (below_append ex m.indexed (2 ^ 32)
      (exports_small (q + length m.name) m.named s.named (omega (arith, module_names_lem)))
      s.indexed)
      i

-- "64 modules stand, or the record or its names exceed the free bytes": what it says where none of these holds
pub record Fits (records names : ℕ) (r : Register) (m : Module) : Type 0 where
  pub few : length r.modules < 64
  pub words : 4 * length (encode_words (appended r m)) ≤ room_in records
  pub bytes : length (record_names (appended r m).modules) ≤ room_in names

pub fits_means : (records names : ℕ) (r : Register) (m : Module) → fits records names r m ≡ true → Fits records names r m
unfolding fits
fits_means records names r m e =
    let t₁ : Bool = ltb (length r.modules) 64 in
    let t₂ : Bool = leb (4 * length (encode_words (appended r m))) (room_in records) in
    let t₃ : Bool = leb (length (record_names (appended r m).modules)) (room_in names) in
    let a = both t₁ (t₂ && t₃) e in
    let b = both t₂ t₃ a.1 in
    record {
      few = ltb-true (length r.modules) 64 a.0;
      words = leb-true (4 * length (encode_words (appended r m))) (room_in records) b.0;
      bytes = leb-true (length (record_names (appended r m).modules)) (room_in names) b.1;
    }

crs_known-small : (c : Option ℕ) → crs_known c < 2 ^ 32
unfolding crs_known
crs_known-small None = omega arith
crs_known-small (Some base) = omega arith

-- a module more that fits, with another CRS and other missing names
module _ (records names : ℕ) (r : Register) (m : Module) (p : proper r ≡ true) (s : Below (2 ^ 32) (encode_words r)) (f : Fits records names r m)
    (pm : proper_module m ≡ true) (sm : Small m) where
  abbrev ms : List Module
  ms = r.modules ++ (m ∷ [])

  abbrev q : ℕ
  q = length (record_names r.modules)

  their_room : (4 * (8 + length (record_words 0 ms)) ≤ room_in records) × (length (record_names ms) ≤ room_in names)
  unfolding encode_words appended
  their_room = (let h = f.words in omega arith, f.bytes)

  records-small : Below (2 ^ 32) (record_words 0 ms)
  unfolding encode_words
  records-small =
      let l = length-append (record_words 0 r.modules) (module_words q m) in
      let k = ap length (words-with r.modules m) in
      subst (Below (2 ^ 32)) (sym (words-with r.modules m))
      (below_append (record_words 0 r.modules) (module_words q m) (2 ^ 32)
      (λ i. s (suc (suc (suc (suc (suc (suc (suc (suc i)))))))))
      (module_small q m sm (omega (arith, names-with r.modules m, their_room.1, room_word names))
      (omega (arith, their_room.0, room_word records))))

  module _ (c : Option ℕ) (missing : List (List ℕ)) (hc : crs_base c < 2 ^ 32) where
    abbrev pub with : Register
    with = record { modules = ms; crs = c; missing = missing }

    pub with-small : length missing ≤ 64 → Below (2 ^ 32) (encode_words with)
    unfolding encode_words
    with-small h zero = let l = length-append r.modules (m ∷ []) in omega (arith, f.few)
    with-small h (suc zero) = crs_known-small c
    with-small h (suc (suc zero)) = hc
    with-small h (suc (suc (suc zero))) = omega (arith, their_room.0, room_word records)
    with-small h (suc (suc (suc (suc zero)))) = omega (arith, their_room.1, room_word names)
    with-small h (suc (suc (suc (suc (suc zero))))) = omega arith
    with-small h (suc (suc (suc (suc (suc (suc zero)))))) = omega arith
    with-small h (suc (suc (suc (suc (suc (suc (suc zero))))))) = omega arith
    with-small h (suc (suc (suc (suc (suc (suc (suc (suc i)))))))) = records-small i

    pub with-stored : length missing ≤ 64 → proper_names missing ≡ true → Stored records names with
    unfolding encode_words appended
    with-stored h k =
        let a = proper-parts (appended r m) (appended-proper r m p pm f.few) in
        stored records names with
        (parts-proper with (record { count = a.count; modules = a.modules; few = h; kept = k }))
        (omega (arith, their_room.0, room-inside records))
        (omega (arith, their_room.1, room-inside names))
        (with-small h)
