-- Bytes that encode a register: their words, and that a changed encoding is a register again.
use Rattle.std.specs.Prelude.{if◌then◌else◌, ◌≡◌, ℕ, zero, suc, ◌+◌, ◌*◌, ◌/◌, ◌^◌, ◌<◌, ◌≤◌, Bool, true, false, ◌&&◌, List, [], ◌∷◌, length, take, drop, set, ◌==◌, ◌≢◌, slice_index, slice_index_or, slice_set, refl}
use Rattle.std.proofs.Common.{sym, ap, ◌∙◌, arith, length-set, get_or-set_other, drop-set-lt, eq-eqb, ne_eqb}
use Rattle.std.proofs.lemmas.List.{set-get_or, set_comm}
use Rattle.std.proofs.Math.Seq.{take-set-lt}
use Rattle.window.specs.Bytes.{byte_of, join, join-bytes}
use Rattle.window.specs.Word.{set_word_in}
use Rattle.window.specs.Tests.{both, also}
use Rattle.register.specs.Words.{same, all_zero, holds, flat, words_in, length-words}
use Rattle.register.specs.Lists.{same_true, same_refl}
use Rattle.register.specs.Module.{Register, proper}
use Rattle.register.specs.Encode.{encode_words, record_names, slots}
use Rattle.register.specs.Decode.{settled, settled-other, encodes}
use Rattle.register.specs.CheckIs.{begins_long, length-settled, long, size-words, word₀, word₃}
use Rattle.register.specs.Buffers.{Below, padded, records_are, encode_records}

-- "0 is read as 32" only when no module stands
settled_some : (ws : List ℕ) → (slice_index ws 0 ≢ 0) → settled ws ≡ ws
unfolding settled
settled_some ws n = rw (ne_eqb (slice_index ws 0) 0 n)

pub eight : (r : Register) → 8 ≤ length (encode_words r)
unfolding encode_words
eight r = omega arith

-- so the bytes of one have a header
pub header-there : (records names missing : List ℕ) (r : Register) → encodes records names missing r ≡ true → 32 ≤ length records
unfolding encodes
header-there records names missing r e =
    let c = encode_words r in
    let ws = settled (words_in records) in
    let t₁ : Bool = same (take (length c) ws) c in
    let t₂ : Bool = all_zero (drop (4 * length c) records) in
    let t₃ : Bool = holds names (record_names r.modules) && (length missing == 32896 && holds missing (slots r.missing)) in
    let g = same_true (take (length c) ws) c (both t₁ t₂ (both (t₁ && t₂) t₃ e).0).0 in
    omega (arith, eight r, begins_long c ws g, length-settled (words_in records), length-words records)

-- with a module, the bytes are the encoding
pub records_exact
    : (records names missing : List ℕ) (r : Register) → Below 256 records → proper r ≡ true → encodes records names missing r ≡ true
    → 0 < length r.modules → records ≡ encode_records (length records) r
unfolding encode_records encode_words
records_exact records names missing r s p e h =
    let ws = words_in records in
    let c : slice_index_or ws 0 0 ≡ length r.modules = sym (settled-other ws 0 (λ z. omega arith)) ∙ word₀ records names missing r p e in
    let w : slice_index_or ws 3 0 ≡ slice_index_or (encode_words r) 3 0 =
    ap (λ t. slice_index t 3) (sym (settled_some ws (λ z. omega arith))) ∙ word₃ records names missing r p e in
    records_are records names missing r s e
    ∙ ap (λ t. padded (length records) (flat t)) (ap (set (encode_words r) 3) w ∙ set-get_or (encode_words r) 3 0)

pub whole-fits
    : (records names missing : List ℕ) (r : Register) → proper r ≡ true → encodes records names missing r ≡ true
    → 4 * length (encode_words r) ≤ length records
whole-fits records names missing r p e =
    omega (arith, (long records names missing r p e).1, size-words records names missing r p e)

-- a word stored in the header, other than word 0 and word 3

words_store : (l : List ℕ) (i v : ℕ) → v < 2 ^ 32 → i < length l / 4 → words_in (set_word_in l (4 * i) v) ≡ slice_set (words_in l) i v
unfolding words_in set_word_in byte_of
words_store [] i v b h = absurd (omega arith)
words_store (a ∷ []) i v b h = absurd (omega arith)
words_store (a ∷ a₁ ∷ []) i v b h = absurd (omega arith)
words_store (a ∷ a₁ ∷ a₂ ∷ []) i v b h = absurd (omega arith)
words_store (a ∷ a₁ ∷ a₂ ∷ a₃ ∷ l) zero v b h =
    let e : join (byte_of 0 v) (byte_of 1 v) (byte_of 2 v) (byte_of 3 v) ≡ v = join-bytes v ∙ omega arith in
    rw e
words_store (a ∷ a₁ ∷ a₂ ∷ a₃ ∷ l) (suc i) v b h =
    let e₀ : 4 * suc i ≡ suc (suc (suc (suc (4 * i)))) = omega arith in
    let e₁ : 4 * suc i + 1 ≡ suc (suc (suc (suc (4 * i + 1)))) = omega arith in
    let e₂ : 4 * suc i + 2 ≡ suc (suc (suc (suc (4 * i + 2)))) = omega arith in
    let e₃ : 4 * suc i + 3 ≡ suc (suc (suc (suc (4 * i + 3)))) = omega arith in
    rw (e₁, e₂, e₃, e₀) (ap (λ t. join a a₁ a₂ a₃ ∷ t) (words_store l i v b (omega arith)))

rest_store : (n : ℕ) (l : List ℕ) (i v : ℕ) → i + 4 ≤ n → drop n (set_word_in l i v) ≡ drop n l
unfolding set_word_in
rest_store n l i v h =
    drop-set-lt n _ (i + 3) _ (omega arith)
    ∙ drop-set-lt n _ (i + 2) _ (omega arith)
    ∙ drop-set-lt n _ (i + 1) _ (omega arith)
    ∙ drop-set-lt n l i _ (omega arith)

settled_store : (ws : List ℕ) (i v : ℕ) → (i ≢ 0) → (i ≢ 3) → settled (slice_set ws i v) ≡ slice_set (settled ws) i v
unfolding settled
settled_store ws i v n m =
    let a : slice_index_or (slice_set ws i v) 0 0 ≡ slice_index_or ws 0 0 = get_or-set_other ws i 0 v 0 (λ z. n (sym z)) in
    let b : slice_index_or (slice_set ws i v) 3 0 ≡ slice_index_or ws 3 0 = get_or-set_other ws i 3 v 0 (λ z. m (sym z)) in
    rw (a, b) (go (slice_index ws 0 == 0 && slice_index ws 3 == 0))
  where
    go : (t : Bool) → (if t then slice_set (slice_set ws i v) 3 32 else slice_set ws i v) ≡ slice_set (if t then slice_set ws 3 32 else ws) i v
    go true = set_comm ws i 3 v 32 m
    go false = refl

pub store_encodes
    : (records names missing missing' : List ℕ) (r r' : Register) (i v : ℕ) → encodes records names missing r ≡ true → (i ≢ 0) → (i ≢ 3)
    → i < 8 → v < 2 ^ 32 → encode_words r' ≡ slice_set (encode_words r) i v → r'.modules ≡ r.modules → length missing' ≡ 32896
    → holds missing' (slots r'.missing) ≡ true → encodes (set_word_in records (4 * i) v) names missing' r' ≡ true
unfolding encodes
store_encodes records names missing missing' r r' i v e n₀ n₃ h b w m l k =
    let c = encode_words r in
    let ws = settled (words_in records) in
    let t₁ : Bool = same (take (length c) ws) c in
    let t₂ : Bool = all_zero (drop (4 * length c) records) in
    let t₃ : Bool = holds names (record_names r.modules) in
    let t₄ : Bool = length missing == 32896 && holds missing (slots r.missing) in
    let a = both (t₁ && t₂) (t₃ && t₄) e in
    let f = both t₁ t₂ a.0 in
    let g : take (length c) ws ≡ c = same_true (take (length c) ws) c f.0 in
    let o : 8 ≤ length c = eight r in
    let q : i < length records / 4 = omega (arith, header-there records names missing r e) in
    let x : take (length (slice_set c i v)) (settled (words_in (set_word_in records (4 * i) v))) ≡ set c i v =
    rw (words_store records i v b q, settled_store (words_in records) i v n₀ n₃, length-set c i v)
    (take-set-lt (length c) ws i v (omega arith) ∙ ap (λ t. set t i v) g) in
    let y : drop (4 * length (slice_set c i v)) (set_word_in records (4 * i) v) ≡ drop (4 * length c) records =
    rw (length-set c i v) (rest_store (4 * length c) records (4 * i) v (omega arith)) in
    rw (w, x, y, m) (also (also (same_refl (slice_set c i v)) f.1) (also (both t₃ t₄ a.1).0 (also (eq-eqb (length missing') 32896 l) k)))
