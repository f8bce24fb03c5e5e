-- The bytes of a register that a call has changed.
use Rattle.std.specs.Prelude.{◌≡◌, ℕ, ◌+◌, ◌-◌, ◌*◌, ◌^◌, ◌<◌, ◌≤◌, true, List, [], ◌∷◌, length, replicate, slice_index}
use Rattle.std.proofs.Math.Path.{refl, subst}
use Rattle.std.proofs.Common.{sym, ◌∙◌, arith, length-append, le-ltb}
use Rattle.window.specs.Word.{set_word_in}
use Rattle.window.specs.Bytes.{byte_of}
use Rattle.register.specs.Words.{bytes_of, flat, words_in}
use Rattle.register.specs.Module.{Module, Register, proper, proper_module}
use Rattle.register.specs.Proper.{proper-parts}
use Rattle.register.specs.Encode.{module_names, module_words, encode_words, record_words, crs_known, crs_base}
use Rattle.register.specs.Decode.{settled, settled-other, read_crs, read_register, encodes, register_of, is_register}
use Rattle.register.specs.Change.{appended, with_crs}
use Rattle.register.specs.Slots.{length-slots}
use Rattle.register.specs.CheckIs.{register-parts, is_register_lem, read_back_lem, word₃}
use Rattle.register.specs.Buffers.{Below, padded, length-flat, names_are, encode_records, encode_names, encode_missing, encode_encodes}
use Rattle.register.specs.Append.Draft.{room-inside}
use Rattle.register.specs.Append.Stands.{appended-proper, encoded_small}
use Rattle.register.specs.Read.Read.{module_bytes, place_after}
use Rattle.register.specs.Read.Places.{module_bytes_lem}
use Rattle.register.specs.Change.Bytes.{set_crs}
use Rattle.register.specs.Change.Encoded.{records_exact}
use Rattle.linker_spec.specs.Room.{Small, Fits, with-small}

header_long : (n : ℕ) (r : Register) → 32 ≤ length (encode_records n r)
unfolding encode_records padded encode_words
header_long n r =
    omega (arith, length-flat (encode_words r), length-append (flat (encode_words r)) (replicate (n - length (flat (encode_words r))) 0))

-- the CRS set in the bytes is the CRS of the register
crs-words : (n base : ℕ) (r : Register) → set_word_in (set_word_in (encode_records n r) 4 1) 8 base ≡ encode_records n (with_crs r base)
unfolding set_word_in byte_of encode_records padded flat bytes_of encode_words with_crs crs_known crs_base
crs-words n base r = refl

pub crs-stored : (n base : ℕ) (r : Register) → set_crs (encode_records n r) base ≡ encode_records n (with_crs r base)
unfolding set_crs
crs-stored n base r = rw (le-ltb (length (encode_records n r)) 32 (header_long n r)) (crs-words n base r)

-- missing names that no step changed
pub missing_stored
    : (records names missing : List ℕ) → is_register records names missing ≡ true → (r : Register) → r.missing ≡ (register_of records names missing).missing
    → missing ≡ encode_missing r
unfolding encode_missing
missing_stored records names missing h r e =
    let m = names_are records names missing (register_of records names missing) (register-parts records names missing h).1 in
    m.1 ∙ rw (m.2, e)

-- where the record after the last one begins: at the end of the bytes used

pub after-words : (q p : ℕ) (ms : List Module) → place_after p ms ≡ p + 4 * length (record_words q ms)
unfolding place_after record_words
after-words q p [] = omega arith
after-words q p (m ∷ ms) =
    after-words (q + length (module_names m)) (p + module_bytes m) ms
    ∙ omega (arith, module_bytes_lem q m, length-append (module_words q m) (record_words (q + length (module_names m)) ms))

pub used-place
    : (records names missing : List ℕ) → is_register records names missing ≡ true → {u : ℕ} → u ≡ slice_index (settled (words_in records)) 3
    → u ≡ place_after 32 (register_of records names missing).modules
used-place records names missing h e =
    let r = register_of records names missing in
    let p = register-parts records names missing h in
    e ∙ word₃ records names missing r p.0 p.1 ∙ omega (arith, after-words 0 32 r.modules)

pub crs_is
    : (records names missing : List ℕ) → (register_of records names missing).crs ≡ read_crs (slice_index (words_in records) 1) (slice_index (words_in records) 2)
unfolding register_of read_register
crs_is records names missing =
    rw (settled-other (words_in records) 1 (λ z. omega arith), settled-other (words_in records) 2 (λ z. omega arith))

-- bytes that are a register with a module are its encoding
pub register_exact
    : (records names missing : List ℕ) (r : Register) (n : ℕ) → Below 256 records → is_register records names missing ≡ true
    → register_of records names missing ≡ r → 0 < length r.modules → length records ≡ n → records ≡ encode_records n r
register_exact records names missing r n s h e l k =
    let p = register-parts records names missing h in
    let x = register_of records names missing in
    let o : 0 < length x.modules = rw e l in
    records_exact records names missing x s p.0 p.1 o ∙ rw (e, k)

-- the register with a module more that fits, as its bytes
module _ (records names : List ℕ) (missing : List ℕ) (s : Below 256 records) (h : is_register records names missing ≡ true) (m : Module)
    (pm : proper_module m ≡ true) (sm : Small m)
    (f : Fits (length records) (length names) (register_of records names missing) m) where
  abbrev r : Register
  r = register_of records names missing

  abbrev p : (proper r ≡ true) × (encodes records names missing r ≡ true)
  p = register-parts records names missing h

  small : Below (2 ^ 32) (encode_words r)
  small = encoded_small records names missing r s p.1

  crs-small : crs_base r.crs < 2 ^ 32
  unfolding encode_words
  crs-small = small 2

  more : proper (appended r m) ≡ true
  more = appended-proper r m p.0 pm f.few

  more-encodes
      : encodes (encode_records (length records) (appended r m)) (encode_names (length names) (appended r m)) (encode_missing (appended r m)) (appended r m)
      ≡ true
  unfolding appended
  more-encodes =
      let a = proper-parts r p.0 in
      encode_encodes (length records) (length names) (appended r m) (omega (arith, f.words, room-inside (length records)))
      (with-small (length records) (length names) r m p.0 small f pm sm r.crs r.missing crs-small a.few)
      (omega (arith, a.few, length-slots r.missing a.kept))

  pub appended_kept
      : {records₂ names₂ : List ℕ} → records₂ ≡ encode_records (length records) (appended r m) → names₂ ≡ encode_names (length names) (appended r m)
      → (is_register records₂ names₂ missing ≡ true) × (register_of records₂ names₂ missing ≡ appended r m)
  unfolding appended
  appended_kept {names₂ = names₂} e₁ e₂ =
      let e₃ = missing_stored records names missing h (appended r m) refl in
      let x = encode_records (length records) (appended r m) in
      let y = encode_names (length names) (appended r m) in
      let z = encode_missing (appended r m) in
      let k : (is_register x y z ≡ true) × (register_of x y z ≡ appended r m) =
      (is_register_lem x y z (appended r m) more more-encodes, read_back_lem x y z (appended r m) more more-encodes) in
      subst (λ t. (is_register t names₂ missing ≡ true) × (register_of t names₂ missing ≡ appended r m)) (sym e₁)
      (subst (λ t. (is_register x t missing ≡ true) × (register_of x t missing ≡ appended r m)) (sym e₂)
      (subst (λ t. (is_register x y t ≡ true) × (register_of x y t ≡ appended r m)) (sym e₃) k))
