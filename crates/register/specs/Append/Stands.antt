-- A finished record stands: the buffers are a register again, with that module last.
use Rattle.std.specs.Prelude.{if◌then◌else◌, ◌≡◌, ℕ, zero, suc, ◌+◌, ◌-◌, ◌*◌, ◌^◌, ◌<◌, ◌≤◌, Bool, true, false, ◌&&◌, List, [], ◌∷◌, ◌++◌, length, take, drop, set, replicate, ◌==◌, slice_index, slice_set, refl}
use Rattle.std.proofs.Common.{sym, ◌∙◌, arith, length-set}
use Rattle.std.proofs.Math.Path.{ap, subst}
use Rattle.std.proofs.Math.ListN.{length-append}
use Rattle.window.specs.Tests.{both, also}
use Rattle.register.specs.Words.{same, all_zero, holds, words_in}
use Rattle.register.specs.Lists.{same_true}
use Rattle.register.specs.Module.{Module, Register, proper_module, proper_modules, proper}
use Rattle.register.specs.Proper.{proper-parts, parts-proper}
use Rattle.register.specs.Encode.{module_names, module_words, record_names, encode_words, slots}
use Rattle.register.specs.Decode.{settled, encodes, register_of, is_register}
use Rattle.register.specs.Change.{appended}
use Rattle.register.specs.CheckIs.{read_back_lem, is_register_lem}
use Rattle.register.specs.Buffers.{Below, padded, encode_records, encode_names, encode_missing, names_are, encode_encodes}
use Rattle.register.specs.declared.append.draft.Draft.{Draft}
use Rattle.register.specs.Append.Draft.{room-inside, room_word, finish_record}
use Rattle.register.specs.Append.Laid.{below_append}
use Rattle.register.specs.Append.Held.{Held, below_set}
use Rattle.register.specs.Append.Append.{words-appended, finished, finished_names}

-- bytes make words

words_small : (l : List ℕ) → Below 256 l → Below (2 ^ 32) (words_in l)
unfolding words_in
words_small [] b i = omega arith
words_small (x ∷ []) b i = omega arith
words_small (x ∷ y ∷ []) b i = omega arith
words_small (x ∷ y ∷ z ∷ []) b i = omega arith
words_small (x ∷ y ∷ z ∷ v ∷ l) b zero = omega (arith, b 0, b 1, b 2, b 3)
words_small (x ∷ y ∷ z ∷ v ∷ l) b (suc i) = words_small l (λ k. b (suc (suc (suc (suc k))))) i

pub below_take : (n m : ℕ) (l : List ℕ) → 0 < m → Below m l → Below m (take n l)
below_take zero m l h b i = h
below_take (suc n) m [] h b i = h
below_take (suc n) m (x ∷ l) h b zero = b 0
below_take (suc n) m (x ∷ l) h b (suc i) = below_take n m l h (λ k. b (suc k)) i

settled-small : (ws : List ℕ) → Below (2 ^ 32) ws → Below (2 ^ 32) (settled ws)
unfolding settled
settled-small ws b = go (slice_index ws 0 == 0 && slice_index ws 3 == 0)
  where
    go : (t : Bool) → Below (2 ^ 32) (if t then slice_set ws 3 32 else ws)
    go true = below_set (2 ^ 32) ws 3 32 b (omega arith)
    go false = b

-- so the words of a register that bytes encode are words
pub encoded_small : (l n missing : List ℕ) (r : Register) → Below 256 l → encodes l n missing r ≡ true → Below (2 ^ 32) (encode_words r)
unfolding encodes
encoded_small l n missing r b e =
    let k = length (encode_words r) in
    let s : Bool = same (take k (settled (words_in l))) (encode_words r) in
    let z : Bool = all_zero (drop (4 * k) l) in
    let o : Bool = holds n (record_names r.modules) && (length missing == 32896 && holds missing (slots r.missing)) in
    let a = both s z (both (s && z) o e).0 in
    subst (Below (2 ^ 32)) (same_true (take k (settled (words_in l))) (encode_words r) a.0)
    (below_take k (2 ^ 32) (settled (words_in l)) (omega arith) (settled-small (words_in l) (words_small l b)))

-- one proper module more is proper

proper-more : (ms : List Module) (m : Module) → proper_modules ms ≡ true → proper_module m ≡ true → proper_modules (ms ++ (m ∷ [])) ≡ true
unfolding proper_modules
proper-more [] m p q = also q refl
proper-more (x ∷ ms) m p q = let a = both (proper_module x) (proper_modules ms) p in also a.0 (proper-more ms m a.1 q)

pub appended-proper : (r : Register) (m : Module) → proper r ≡ true → proper_module m ≡ true → length r.modules < 64 → proper (appended r m) ≡ true
unfolding appended
appended-proper r m p q few =
    let a = proper-parts r p in
    let n : length (r.modules ++ (m ∷ [])) ≡ length r.modules + 1 = length-append r.modules (m ∷ []) in
    parts-proper (appended r m) record { count = omega arith; modules = proper-more r.modules m a.modules q; few = a.few; kept = a.kept }

module _ (l n missing : List ℕ) (r : Register) (p : proper r ≡ true) (e : encodes l n missing r ≡ true) (b : Below 256 l) (d : Draft) (m : Module)
    (records names : List ℕ) (h : Held l n d m records names) (es : d.start ≡ 4 * length (encode_words r))
    (en : d.names ≡ length (record_names r.modules)) (few : length r.modules < 64) where
  abbrev x : ℕ
  x = slice_index (words_in l) 3

  abbrev mw : List ℕ
  mw = module_words (length (record_names r.modules)) m

  abbrev w : List ℕ
  w = slice_set (encode_words r) 3 x ++ mw

  abbrev c : ℕ
  c = length r.modules + 1

  the_words : set (slice_set (slice_set w 0 c) 3 d.end) 4 d.last ≡ encode_words (appended r m)
  the_words =
      let q = ap (λ k. length (module_words k m)) en in
      words-appended r m x d.end d.last (omega (arith, h.end, es)) (h.last ∙ ap (λ k. k + length (module_names m)) en)

  few_words : 4 * length (encode_words (appended r m)) ≤ length l
  few_words =
      let q = ap (λ k. length (module_words k m)) en in
      let a : length (encode_words (appended r m)) ≡ length (encode_words r) + length mw =
      ap length (sym the_words)
      ∙ length-set (slice_set (slice_set w 0 c) 3 d.end) 4 d.last
      ∙ length-set (slice_set w 0 c) 3 d.end
      ∙ length-set w 0 c
      ∙ length-append (slice_set (encode_words r) 3 x) mw
      ∙ ap (λ k. k + length mw) (length-set (encode_words r) 3 x) in
      omega (arith, h.end, h.room, es, room-inside (length l))

  small-words : Below (2 ^ 32) (encode_words (appended r m))
  small-words =
      let s : Below (2 ^ 32) w =
      below_append (slice_set (encode_words r) 3 x) mw (2 ^ 32)
      (below_set (2 ^ 32) (encode_words r) 3 x (encoded_small l n missing r b e) (words_small l b 3))
      (subst (λ k. Below (2 ^ 32) (module_words k m)) en h.small) in
      subst (Below (2 ^ 32)) the_words
      (below_set (2 ^ 32) (slice_set (slice_set w 0 c) 3 d.end) 4 d.last
      (below_set (2 ^ 32) (slice_set w 0 c) 3 d.end (below_set (2 ^ 32) w 0 c s (omega arith)) (omega (arith, h.room, room_word (length l))))
      (omega (arith, h.name-room, room_word (length n))))

  the_missing : (missing ≡ encode_missing (appended r m)) × (length (slots r.missing) ≤ 32896)
  unfolding encode_missing appended padded
  the_missing =
      let a = names_are l n missing r e in
      let s = slots r.missing in
      let g : length missing ≡ length s + length (replicate {A = ℕ} (length missing - length s) 0) =
      ap length a.1 ∙ length-append s (replicate (length missing - length s) 0) in
      (a.1 ∙ ap (λ k. s ++ replicate (k - length s) 0) a.2, omega (arith, a.2))

  encodes-appended : encodes (encode_records (length l) (appended r m)) (encode_names (length n) (appended r m)) missing (appended r m) ≡ true
  unfolding appended
  encodes-appended =
      subst (λ t. encodes (encode_records (length l) (appended r m)) (encode_names (length n) (appended r m)) t (appended r m) ≡ true)
      (sym the_missing.0)
      (encode_encodes (length l) (length n) (appended r m) few_words small-words the_missing.1)

  -- the register with the module last, and a register again
  module _ (pm : proper_module m ≡ true) where
    pub stands : register_of (finish_record records d) names missing ≡ appended r m
    stands =
        rw (finished l n missing r p e b d m records names h es en few, finished_names l n missing r p e b d m records names h es en)
        (read_back_lem (encode_records (length l) (appended r m)) (encode_names (length n) (appended r m)) missing (appended r m)
        (appended-proper r m p pm few)
        encodes-appended)

    pub still_register : is_register (finish_record records d) names missing ≡ true
    still_register =
        rw (finished l n missing r p e b d m records names h es en few, finished_names l n missing r p e b d m records names h es en)
        (is_register_lem (encode_records (length l) (appended r m)) (encode_names (length n) (appended r m)) missing (appended r m)
        (appended-proper r m p pm few)
        encodes-appended)
