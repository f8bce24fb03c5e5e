-- The encoding as bytes of lent buffers: what the three buffers are when they encode a register, and that such bytes encode it.
use Rattle.std.specs.Prelude.{if◌then◌else◌, ◌≡◌, ℕ, zero, suc, ◌+◌, ◌-◌, ◌*◌, ◌/◌, ◌%◌, ◌^◌, ◌<◌, ◌≤◌, Bool, true, false, ◌&&◌, List, [], ◌∷◌, ◌++◌, length, take, drop, set, replicate, ◌==◌, nat_eq, slice_index, slice_set, refl}
use Rattle.std.proofs.Common.{sym, ap, ◌∙◌, arith, length-append, length-drop, length-set, take-append-drop, set-set, drop_at, eqb-true, eq-eqb, ne_eqb}
use Rattle.std.proofs.Math.Bool.{and-false}
use Rattle.std.proofs.lemmas.List.{length-replicate, set-get_or}
use Rattle.std.proofs.Math.Seq.{take-set-lt, drop-append_seam, take-append_seam}
use Rattle.window.specs.Bytes.{byte_of, join, join-bytes}
use Rattle.window.specs.Tests.{both, also}
use Rattle.register.specs.Words.{same, all_zero, holds, bytes_of, flat, words_in, length-words}
use Rattle.register.specs.Lists.{same_true, same_refl}
use Rattle.register.specs.Module.{Register}
use Rattle.register.specs.Encode.{record_words, encode_words, record_names, slots}
use Rattle.register.specs.Decode.{settled, encodes}
use Rattle.register.specs.Slots.{all-zero, zeros}
use Rattle.register.specs.CheckIs.{length-settled, begins_long}

-- every element is below b
abbrev pub Below : ℕ → List ℕ → Type 0
Below b l = (i : ℕ) → slice_index l i < b

-- e, and zeros up to n
unfoldable pub padded : ℕ → List ℕ → List ℕ
padded n e = e ++ replicate (n - length e) 0

pub length-padded : (n : ℕ) (e : List ℕ) → length e ≤ n → length (padded n e) ≡ n
unfolding padded
length-padded n e h = length-append e (replicate (n - length e) 0) ∙ ap (λ k. length e + k) (length-replicate (n - length e) 0) ∙ omega arith

-- a buffer holds e exactly if it is e, padded
pub holds-padded : (l e : List ℕ) → holds l e ≡ true → l ≡ padded (length l) e
unfolding holds padded
holds-padded l e h =
    let a = both (same (take (length e) l) e) (all_zero (drop (length e) l)) h in
    let d : drop (length e) l ≡ replicate (length l - length e) 0 =
    all-zero (drop (length e) l) a.1 ∙ ap (λ n. replicate n 0) (length-drop (length e) l) in
    sym (take-append-drop (length e) l) ∙ rw (same_true (take (length e) l) e a.0, d)

pub padded-holds : (n : ℕ) (e : List ℕ) → holds (padded n e) e ≡ true
unfolding holds padded
padded-holds n e =
    rw (take-append_seam e (replicate (n - length e) 0), drop-append_seam e (replicate (n - length e) 0))
    (also (same_refl e) (zeros (n - length e)))

-- words and their bytes

pub length-flat : (ws : List ℕ) → length (flat ws) ≡ 4 * length ws
unfolding flat bytes_of
length-flat [] = refl
length-flat (v ∷ vs) = let h = length-flat vs in omega arith

pub words-flat : (ws rest : List ℕ) → Below (2 ^ 32) ws → words_in (flat ws ++ rest) ≡ ws ++ words_in rest
unfolding words_in flat bytes_of
words-flat [] rest b = refl
words-flat (v ∷ vs) rest b =
    let h : v < 2 ^ 32 = b 0 in
    let e : join (byte_of 0 v) (byte_of 1 v) (byte_of 2 v) (byte_of 3 v) ≡ v = join-bytes v ∙ omega arith in
    rw e (ap (λ t. v ∷ t) (words-flat vs rest (λ i. b (suc i))))

byte_join : (a b c d : ℕ) → a < 256 → b < 256 → c < 256 → d < 256 → bytes_of (join a b c d) ≡ a ∷ b ∷ c ∷ d ∷ []
unfolding bytes_of byte_of
byte_join a b c d ha hb hc hd =
    let q₁ : join a b c d / 256 ≡ b + 256 * (c + 256 * d) = omega arith in
    let q₂ : (b + 256 * (c + 256 * d)) / 256 ≡ c + 256 * d = omega arith in
    let q₃ : (c + 256 * d) / 256 ≡ d = omega arith in
    let e₀ : join a b c d % 256 ≡ a = omega arith in
    let e₁ : (b + 256 * (c + 256 * d)) % 256 ≡ b = omega arith in
    let e₂ : (c + 256 * d) % 256 ≡ c = omega arith in
    let e₃ : d % 256 ≡ d = omega arith in
    rw (q₁, q₂, q₃, e₀, e₁, e₂, e₃)

pub take_words : (n : ℕ) (l : List ℕ) → 4 * n ≤ length l → Below 256 l → take (4 * n) l ≡ flat (take n (words_in l))
unfolding words_in flat
take_words zero l h b = refl
take_words (suc n) [] h b = absurd (omega arith)
take_words (suc n) (a ∷ []) h b = absurd (omega arith)
take_words (suc n) (a ∷ a₁ ∷ []) h b = absurd (omega arith)
take_words (suc n) (a ∷ a₁ ∷ a₂ ∷ []) h b = absurd (omega arith)
take_words (suc n) (a ∷ a₁ ∷ a₂ ∷ a₃ ∷ l) h b =
    let s : 4 * suc n ≡ suc (suc (suc (suc (4 * n)))) = omega arith in
    let i = take_words n l (omega arith) (λ k. b (suc (suc (suc (suc k))))) in
    rw (s, byte_join a a₁ a₂ a₃ (b 0) (b 1) (b 2) (b 3)) (ap (λ t. a ∷ a₁ ∷ a₂ ∷ a₃ ∷ t) i)

-- the words as they stand are the settled ones but for word 3
unsettled : (ws : List ℕ) → ws ≡ slice_set (settled ws) 3 (slice_index ws 3)
unfolding settled
unsettled ws = go (slice_index ws 0 == 0 && slice_index ws 3 == 0)
  where
    go : (b : Bool) → ws ≡ slice_set (if b then slice_set ws 3 32 else ws) 3 (slice_index ws 3)
    go true = sym (set-set ws 3 32 (slice_index ws 3) ∙ set-get_or ws 3 0)
    go false = sym (set-get_or ws 3 0)

pub more_than_three : (r : Register) → 3 < length (encode_words r)
unfolding encode_words
more_than_three r = omega arith

pub words-padded : (n : ℕ) (ws : List ℕ) → Below (2 ^ 32) ws → words_in (padded n (flat ws)) ≡ ws ++ words_in (replicate (n - length (flat ws)) 0)
unfolding padded
words-padded n ws b = words-flat ws (replicate (n - length (flat ws)) 0) b

pub drop-padded : (n : ℕ) (e : List ℕ) (k : ℕ) → length e ≡ k → drop k (padded n e) ≡ replicate (n - length e) 0
unfolding padded
drop-padded n e k h = drop_at e (replicate (n - length e) 0) k h

-- word 3 of an encoding is not 0
settled_encoded : (r : Register) (rest : List ℕ) → settled (encode_words r ++ rest) ≡ encode_words r ++ rest
unfolding settled encode_words
settled_encoded r rest =
    let u = 4 * (8 + length (record_words 0 r.modules)) in
    rw (ne_eqb u 0 (λ z. omega arith), and-false)

-- encode after decode, as bytes: the records are the encoding, with word 3 as it stands
pub records_are
    : (records names missing : List ℕ) (r : Register) → Below 256 records → encodes records names missing r ≡ true
    → records ≡ padded (length records) (flat (slice_set (encode_words r) 3 (slice_index (words_in records) 3)))
unfolding encodes padded
records_are records names missing r b e =
    let ws = words_in records in
    let n = length (encode_words r) in
    let t₁ : Bool = same (take n (settled ws)) (encode_words r) in
    let t₂ : Bool = all_zero (drop (4 * n) records) in
    let t₃ : Bool = holds names (record_names r.modules) && (length missing == 32896 && holds missing (slots r.missing)) in
    let a = both (t₁ && t₂) t₃ e in
    let c = both t₁ t₂ a.0 in
    let w : take n (settled ws) ≡ encode_words r = same_true (take n (settled ws)) (encode_words r) c.0 in
    let x : take n ws ≡ set (encode_words r) 3 (slice_index ws 3) =
    ap (take n) (unsettled ws) ∙ take-set-lt n (settled ws) 3 (slice_index ws 3) (more_than_three r) ∙ ap (λ t. set t 3 (slice_index ws 3)) w in
    let g = begins_long (encode_words r) (settled ws) w in
    let l : 4 * n ≤ length records = omega (arith, length-settled ws, length-words records) in
    let f : length (flat (slice_set (encode_words r) 3 (slice_index ws 3))) ≡ 4 * n =
    length-flat (slice_set (encode_words r) 3 (slice_index ws 3)) ∙ ap (λ k. 4 * k) (length-set (encode_words r) 3 (slice_index ws 3)) in
    sym (take-append-drop (4 * n) records)
    ∙ rw (take_words n records l b, x, f)
    (ap (λ t. flat (slice_set (encode_words r) 3 (slice_index ws 3)) ++ t)
    (all-zero (drop (4 * n) records) c.1 ∙ ap (λ k. replicate k 0) (length-drop (4 * n) records)))

pub names_are
    : (records names missing : List ℕ) (r : Register) → encodes records names missing r ≡ true
    → (names ≡ padded (length names) (record_names r.modules)) × (missing ≡ padded (length missing) (slots r.missing)) × (length missing ≡ 32896)
unfolding encodes
names_are records names missing r e =
    let n = length (encode_words r) in
    let t₁ : Bool = same (take n (settled (words_in records))) (encode_words r) && all_zero (drop (4 * n) records) in
    let t₂ : Bool = holds names (record_names r.modules) in
    let t₃ : Bool = nat_eq (length missing) 32896 in
    let t₄ : Bool = holds missing (slots r.missing) in
    let a = both t₁ (t₂ && (t₃ && t₄)) e in
    let b = both t₂ (t₃ && t₄) a.1 in
    let c = both t₃ t₄ b.1 in (
      holds-padded names (record_names r.modules) b.0,
      holds-padded missing (slots r.missing) c.1,
      eqb-true (length missing) 32896 c.0,
    )

-- the register as the bytes of buffers of given lengths
unfoldable pub encode_records : ℕ → Register → List ℕ
encode_records n r = padded n (flat (encode_words r))

unfoldable pub encode_names : ℕ → Register → List ℕ
encode_names n r = padded n (record_names r.modules)

unfoldable pub encode_missing : Register → List ℕ
encode_missing r = padded 32896 (slots r.missing)

-- they encode it, if they are long enough and its words are words
pub encode_encodes
    : (lr ln : ℕ) (r : Register) → 4 * length (encode_words r) ≤ lr → Below (2 ^ 32) (encode_words r) → length (slots r.missing) ≤ 32896
    → encodes (encode_records lr r) (encode_names ln r) (encode_missing r) r ≡ true
unfolding encodes encode_records encode_names encode_missing
encode_encodes lr ln r h b m =
    let e = encode_words r in
    let z = replicate {A = ℕ} (lr - length (flat e)) 0 in
    let lf : length (flat e) ≡ 4 * length e = length-flat e in
    let w : words_in (padded lr (flat e)) ≡ e ++ words_in z = words-padded lr e b in
    let s : settled (e ++ words_in z) ≡ e ++ words_in z = settled_encoded r (words_in z) in
    let t : take (length e) (e ++ words_in z) ≡ e = take-append_seam e (words_in z) in
    let d : drop (4 * length e) (padded lr (flat e)) ≡ z = drop-padded lr (flat e) (4 * length e) lf in
    let a₁ : same (take (length e) (settled (words_in (padded lr (flat e))))) e ≡ true = rw (w, s, t) (same_refl e) in
    let a₂ : all_zero (drop (4 * length e) (padded lr (flat e))) ≡ true = rw d (zeros (lr - length (flat e))) in
    let l : length (padded 32896 (slots r.missing)) ≡ 32896 = length-padded 32896 (slots r.missing) m in
    also (also a₁ a₂)
    (also (padded-holds ln (record_names r.modules)) (also (eq-eqb _ 32896 l) (padded-holds 32896 (slots r.missing))))
