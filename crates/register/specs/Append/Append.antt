-- A record begun, finished or given up: the buffers are then the encoding with one module more, or as they were.
use Rattle.std.specs.Prelude.{◌≡◌, ℕ, zero, suc, ◌+◌, ◌-◌, ◌*◌, ◌%◌, ◌^◌, ◌<◌, ◌≤◌, Bool, true, false, ◌&&◌, List, [], ◌∷◌, ◌++◌, length, set, replicate, nat_le, nat_lt, slice_index, slice_index_or, slice_set, Some, None}
use Rattle.std.proofs.Math.Path.{refl, sym, ap, subst}
use Rattle.std.proofs.Common.{◌∙◌}
use mathlib.Core.List.{append_assoc, append-nil}
use native.Mathlib.Omega.{arith}
use Rattle.std.proofs.Math.ListN.{length-append, length-set}
use Rattle.std.proofs.lemmas.List.{length-replicate, replicate-append-replicate, set-append_left}
use Rattle.std.proofs.Math.Seq.{sets, set-append_seam}
use borrow.Author.Tests.{lt-ltb, le-leb}
use Rattle.window.specs.Word.{word_in, set_word_in}
use Rattle.register.specs.Words.{flat, bytes_of, words_in, word_row}
use Rattle.register.specs.Module.{Module, Register, proper}
use Rattle.register.specs.Decode.{settled-other, encodes}
use Rattle.register.specs.CheckIs.{size-words, long, word₀, word₃, word₄}
use Rattle.register.specs.Encode.{export_words, export_names, module_names, module_words, flag, record_words, record_names, encode_words}
use Rattle.register.specs.Change.{new_module, appended}
use Rattle.register.specs.Buffers.{Below, padded, length-flat, records_are, names_are, encode_records, encode_names}
use Rattle.register.specs.declared.append.draft.Draft.{Draft}
use Rattle.register.specs.Append.Sets.{sets_append, sets_over, four_inside, word_below, store_word, flat-set, flat_append}
use Rattle.register.specs.Append.Draft.{room_in, room-inside, room_word, used_bytes, used_names, opened, first_words, draft_at, begin_record, finish_record, cleared, given_up}
use Rattle.register.specs.Append.Held.{Held}
use Rattle.register.specs.Append.Steps.{held_ready, ready_open}

-- stores in the front of a list, and over zeros

sets_front : (a z : List ℕ) (i : ℕ) (vs : List ℕ) → i + length vs ≤ length a → sets (a ++ z) i vs ≡ sets a i vs ++ z
sets_front a z i [] h = refl
sets_front a z i (v ∷ vs) h =
    let s : length (slice_set a i v) ≡ length a = length-set a i v in
    ap (λ t. sets t (suc i) vs) (set-append_left a z i v (omega arith)) ∙ sets_front (slice_set a i v) z (suc i) vs (omega arith)

sets_zeros : (a vs : List ℕ) (k : ℕ) → length vs ≤ k → sets (a ++ replicate k 0) (length a) vs ≡ a ++ vs ++ replicate (k - length vs) 0
sets_zeros a [] k h = let z : k - 0 ≡ k = omega arith in rw (z, append-nil)
sets_zeros a (v ∷ vs) zero h = absurd (omega arith)
sets_zeros a (v ∷ vs) (suc k) h =
    let n : length (a ++ (v ∷ [])) ≡ suc (length a) = length-append a (v ∷ []) ∙ omega arith in
    let e : set (a ++ (0 ∷ replicate k 0)) (length a) v ≡ a ++ (v ∷ []) ++ replicate k 0 =
    set-append_seam a 0 (replicate k 0) v ∙ sym (append_assoc a (v ∷ []) (replicate k 0)) in
    let d : suc k - suc (length vs) ≡ k - length vs = omega arith in
    rw (e, d)
    (ap (λ t. sets (a ++ (v ∷ []) ++ replicate k 0) t vs) (sym n)
    ∙ sets_zeros (a ++ (v ∷ [])) vs k (omega arith)
    ∙ ap (λ t. t ++ replicate (k - length vs) 0) (append_assoc a (v ∷ []) vs))

-- zeros stored over what was stored over zeros, and over zeros after it
zeros_again
    : (x bs : List ℕ) (k o n : ℕ) → o ≡ length x → length bs ≤ n → n ≤ k
    → sets (sets (x ++ replicate k 0) o bs) o (replicate n 0) ≡ x ++ replicate k 0
zeros_again x bs k o n e h g =
    let r = replicate {A = ℕ} n 0 in
    let lr : length r ≡ n = length-replicate n 0 in
    let d : n + (k - n) ≡ k = omega arith in
    sets_over (x ++ replicate k 0) o bs r (omega (arith, lr))
    ∙ ap (λ t. sets (x ++ replicate k 0) t r) e
    ∙ sets_zeros x r k (omega (arith, lr))
    ∙ rw lr (append_assoc x r (replicate (k - n) 0) ∙ ap (λ t. x ++ t) (replicate-append-replicate n (k - n) 0 ∙ ap (λ t. replicate t 0) d))

-- words of a padded buffer: changed, and more of them

module _ (n : ℕ) (ws : List ℕ) where
  pub set-padded : (i v : ℕ) → i < length ws → set_word_in (padded n (flat ws)) (4 * i) v ≡ padded n (flat (slice_set ws i v))
  unfolding padded
  set-padded i v h =
      let l : length (flat ws) ≡ 4 * length ws = length-flat ws in
      let k : length (flat (slice_set ws i v)) ≡ length (flat ws) = length-flat (slice_set ws i v) ∙ ap (λ t. 4 * t) (length-set ws i v) ∙ sym l in
      store_word (flat ws ++ replicate (n - length (flat ws)) 0) (4 * i) v
      ∙ sets_front (flat ws) (replicate (n - length (flat ws)) 0) (4 * i) (bytes_of v) (four_inside i v l h)
      ∙ rw (flat-set ws i v h, k)

  pub more-padded
      : (vs : List ℕ) → 4 * length ws + 4 * length vs ≤ n → sets (padded n (flat ws)) (4 * length ws) (flat vs) ≡ padded n (flat (ws ++ vs))
  unfolding padded
  more-padded vs h =
      let lw : length (flat ws) ≡ 4 * length ws = length-flat ws in
      let lv : length (flat vs) ≡ 4 * length vs = length-flat vs in
      let z = replicate {A = ℕ} (n - length (flat ws)) 0 in
      let d : n - length (flat ws) - length (flat vs) ≡ n - length (flat ws ++ flat vs) = omega (arith, length-append (flat ws) (flat vs)) in
      ap (λ t. sets (flat ws ++ z) t (flat vs)) (sym lw)
      ∙ sets_zeros (flat ws) (flat vs) (n - length (flat ws)) (omega arith)
      ∙ rw (flat_append ws vs, d)

-- modules after others: their words after the others', their names after theirs

pub names-append : (ps bs : List Module) → record_names (ps ++ bs) ≡ record_names ps ++ record_names bs
unfolding record_names
names-append [] bs = refl
names-append (m ∷ ps) bs =
    ap (λ t. module_names m ++ t) (names-append ps bs) ∙ sym (append_assoc (module_names m) (record_names ps) (record_names bs))

pub words_append
    : (q : ℕ) (ps bs : List Module) → record_words q (ps ++ bs) ≡ record_words q ps ++ record_words (q + length (record_names ps)) bs
unfolding record_words record_names
words_append q [] bs = let z : q + 0 ≡ q = omega arith in rw z
words_append q (m ∷ ps) bs =
    let g = length (module_names m) in
    let l : length (module_names m ++ record_names ps) ≡ g + length (record_names ps) = length-append (module_names m) (record_names ps) in
    let e : q + length (module_names m ++ record_names ps) ≡ q + g + length (record_names ps) = omega arith in
    ap (λ t. module_words q m ++ t) (words_append (q + g) ps bs)
    ∙ rw e (sym (append_assoc (module_words q m) (record_words (q + g) ps) (record_words (q + g + length (record_names ps)) bs)))

-- one module more
module _ (ms : List Module) (m : Module) where
  record_names-more : record_names (ms ++ (m ∷ [])) ≡ record_names ms ++ module_names m
  unfolding record_names
  record_names-more = names-append ms (m ∷ []) ∙ ap (λ t. record_names ms ++ t) (append-nil (module_names m))

  pub names-with : length (record_names (ms ++ (m ∷ []))) ≡ length (record_names ms) + length (module_names m)
  names-with = ap length record_names-more ∙ length-append (record_names ms) (module_names m)

  pub words-with : record_words 0 (ms ++ (m ∷ [])) ≡ record_words 0 ms ++ module_words (length (record_names ms)) m
  unfolding record_words
  words-with =
      let z : 0 + length (record_names ms) ≡ length (record_names ms) = omega arith in
      words_append 0 ms (m ∷ []) ∙ rw (z, append-nil)

-- the header of the register with m, by three changes of the header without
pub words-appended
    : (r : Register) (m : Module) (x end last : ℕ) → end ≡ 4 * (length (encode_words r) + length (module_words (length (record_names r.modules)) m))
    → last ≡ length (record_names r.modules) + length (module_names m)
    → slice_set (slice_set (slice_set (slice_set (encode_words r) 3 x ++ module_words (length (record_names r.modules)) m) 0 (length r.modules + 1)) 3 end) 4 last
    ≡ encode_words (appended r m)
unfolding encode_words appended
words-appended r m x end last e f =
    let ms = r.modules in
    let n : length (ms ++ (m ∷ [])) ≡ length ms + 1 = length-append ms (m ∷ []) in
    let k : length (record_names (ms ++ (m ∷ []))) ≡ last = names-with ms m ∙ sym f in
    let l : length (record_words 0 ms ++ module_words (length (record_names ms)) m)
    ≡ length (record_words 0 ms) + length (module_words (length (record_names ms)) m) =
    length-append (record_words 0 ms) (module_words (length (record_names ms)) m) in
    let u : 4 * (8 + length (record_words 0 ms ++ module_words (length (record_names ms)) m)) ≡ end = omega arith in
    rw (k, n, words-with ms m, u)

-- buffers that encode r

module _ (l n missing : List ℕ) (r : Register) (p : proper r ≡ true) (e : encodes l n missing r ≡ true) (b : Below 256 l) where
  abbrev E : List ℕ
  E = encode_words r

  -- the words before, with word 3 as it stands
  abbrev E' : List ℕ
  E' = slice_set E 3 (slice_index (words_in l) 3)

  size : length E' ≡ length E
  size = length-set E 3 (slice_index (words_in l) 3)

  pub used : used_bytes l ≡ 4 * length E
  unfolding used_bytes
  used = word₃ l n missing r p e ∙ ap (λ k. 4 * k) (sym (size-words l n missing r p e))

  pub named : used_names l ≡ length (record_names r.modules)
  unfolding used_names
  named = sym (settled-other (words_in l) 4 (λ z. omega arith)) ∙ word₄ l n missing r p e

  -- finished: the encoding with one module more
  module _ (d : Draft) (m : Module) (records names : List ℕ) (h : Held l n d m records names) (es : d.start ≡ 4 * length E)
      (en : d.names ≡ length (record_names r.modules)) where
    abbrev mw : List ℕ
    mw = module_words (length (record_names r.modules)) m

    whole : 4 * length E' + 4 * length mw ≤ length l
    whole = let a = h.end in let c = ap (λ q. length (module_words q m)) en in omega (arith, h.room, room-inside (length l), size)

    all_words : records ≡ padded (length l) (flat (E' ++ mw))
    all_words =
        h.words
        ∙ ap (λ q. sets l d.start (flat (module_words q m))) en
        ∙ ap (λ o. sets l o (flat mw)) (es ∙ ap (λ k. 4 * k) (sym size))
        ∙ ap (λ t. sets t (4 * length E') (flat mw)) (records_are l n missing r b e)
        ∙ more-padded (length l) E' mw whole

    first_word : word_in records 0 ≡ length r.modules
    first_word =
        let k = long l n missing r p e in
        ap (λ t. word_in t 0) h.words
        ∙ word_below l d.start (flat (module_words d.names m)) 0 (omega (arith, es, size-words l n missing r p e))
        ∙ word_row l 0 (omega (arith, k.1))
        ∙ sym (settled-other (words_in l) 0 (λ z. omega arith))
        ∙ word₀ l n missing r p e

    pub finished : length r.modules < 64 → finish_record records d ≡ encode_records (length l) (appended r m)
    unfolding finish_record encode_records
    finished few =
        let w = E' ++ mw in
        let c = length r.modules + 1 in
        let lw : length w ≡ length E' + length mw = length-append E' mw in
        let z = size-words l n missing r p e in
        let v : (length r.modules + 1) % 2 ^ 32 ≡ c = omega arith in
        let l₁ : length (slice_set w 0 c) ≡ length w = length-set w 0 c in
        let l₂ : length (slice_set (slice_set w 0 c) 3 d.end) ≡ length w = length-set (slice_set w 0 c) 3 d.end ∙ l₁ in
        let s₁ : set_word_in records 0 c ≡ padded (length l) (flat (slice_set w 0 c)) =
        ap (λ t. set_word_in t 0 c) all_words ∙ set-padded (length l) w 0 c (omega (arith, size)) in
        let s₂ : set_word_in (set_word_in records 0 c) 12 d.end ≡ padded (length l) (flat (slice_set (slice_set w 0 c) 3 d.end)) =
        ap (λ t. set_word_in t 12 d.end) s₁ ∙ set-padded (length l) (slice_set w 0 c) 3 d.end (omega (arith, size)) in
        let s₃ : set_word_in (set_word_in (set_word_in records 0 c) 12 d.end) 16 d.last
        ≡ padded (length l) (flat (slice_set (slice_set (slice_set w 0 c) 3 d.end) 4 d.last)) =
        ap (λ t. set_word_in t 16 d.last) s₂ ∙ set-padded (length l) (slice_set (slice_set w 0 c) 3 d.end) 4 d.last (omega (arith, size)) in
        let q : length (module_words d.names m) ≡ length mw = ap (λ k. length (module_words k m)) en in
        let o : opened d records ≡ true = ready_open d records names (held_ready l n d m records names h) in
        rw (o, first_word, v)
        (s₃
        ∙ ap (λ t. padded (length l) (flat t))
        (words-appended r m (slice_index (words_in l) 3) d.end d.last (omega (arith, h.end, es))
        (h.last ∙ ap (λ k. k + length (module_names m)) en)))

    pub finished_names : names ≡ encode_names (length n) (appended r m)
    unfolding encode_names appended padded
    finished_names =
        let rn = record_names r.modules in
        let a : n ≡ rn ++ replicate (length n - length rn) 0 = (names_are l n missing r e).0 in
        let g : length (module_names m) ≤ length n - length rn = omega (arith, h.last, en, h.name-room, room-inside (length n)) in
        let k : length n - length rn - length (module_names m) ≡ length n - length (rn ++ module_names m) =
        omega (arith, length-append rn (module_names m)) in
        h.bytes
        ∙ ap (λ q. sets n q (module_names m)) en
        ∙ ap (λ t. sets t (length rn) (module_names m)) a
        ∙ sets_zeros rn (module_names m) (length n - length rn) g
        ∙ rw (k, ← record_names-more r.modules m)

  -- given up: every byte as before, whatever was written between the draft's places
  pub given_up_lem
      : (d : Draft) (x y records names : List ℕ) → d.start ≡ 4 * length (encode_words r) → d.names ≡ length (record_names r.modules)
      → records ≡ sets l d.start x → names ≡ sets n d.names y → d.start + length x ≤ d.end → d.names + length y ≤ d.last
      → d.end ≤ length l → d.last ≤ length n → given_up records names d ≡ (l, n)
  unfolding given_up cleared padded
  given_up_lem d x y records names es en hx hy ee el room name-room =
      let le : length (flat E') ≡ 4 * length E' = length-flat E' in
      let rn = record_names r.modules in
      let a : l ≡ flat E' ++ replicate (length l - length (flat E')) 0 = records_are l n missing r b e in
      let c : n ≡ rn ++ replicate (length n - length rn) 0 = (names_are l n missing r e).0 in
      let er : sets records d.start (replicate (d.end - d.start) 0) ≡ l =
      ap (λ t. sets t d.start (replicate (d.end - d.start) 0)) (hx ∙ ap (λ t. sets t d.start x) a)
      ∙ zeros_again (flat E') x (length l - length (flat E')) d.start (d.end - d.start) (omega (arith, es, size)) (omega (arith, ee))
      (omega (arith, room, es, size))
      ∙ sym a in
      let fn : sets names d.names (replicate (d.last - d.names) 0) ≡ n =
      ap (λ t. sets t d.names (replicate (d.last - d.names) 0)) (hy ∙ ap (λ t. sets t d.names y) c)
      ∙ zeros_again rn y (length n - length rn) d.names (d.last - d.names) en (omega (arith, el)) (omega (arith, name-room, en))
      ∙ sym c in
      rw (er, fn)

  -- zeros over the end of what was written from the first free byte on: so much of it is as it was
  pub cut_short
      : (x y : List ℕ) (o k : ℕ) → o ≡ 4 * length (encode_words r) → length y ≤ k → o + length x + k ≤ length l
      → sets (sets l o (x ++ y)) (o + length x) (replicate k 0) ≡ sets l o x
  unfolding padded
  cut_short x y o k eo hy room =
      let le : length (flat E') ≡ 4 * length E' = length-flat E' in
      let free = length l - length (flat E') in
      let a : l ≡ flat E' ++ replicate free 0 = records_are l n missing r b e in
      let oe : o ≡ length (flat E') = omega (arith, eo, size) in
      let written : sets l o x ≡ flat E' ++ x ++ replicate (free - length x) 0 =
      ap (λ t. sets t o x) a ∙ ap (λ t. sets (flat E' ++ replicate free 0) t x) oe ∙ sets_zeros (flat E') x free (omega (arith, oe)) in
      ap (λ t. sets t (o + length x) (replicate k 0)) (sets_append l o x y ∙ ap (λ t. sets t (o + length x) y) written)
      ∙ zeros_again (flat E' ++ x) y (free - length x) (o + length x) k (omega (arith, oe, length-append (flat E') x)) hy (omega (arith, oe))
      ∙ sym written

-- begun: the first eight words and the name stand

eight : (base size : ℕ) (auto : Bool) (q c : ℕ) → length (first_words base size auto q c) ≡ 8
unfolding first_words
eight base size auto q c = refl

flag_small : (b : Bool) → flag b < 2 ^ 32
unfolding flag
flag_small true = omega arith
flag_small false = omega arith

first_small
    : (base size : ℕ) (auto : Bool) (q c : ℕ) → base < 2 ^ 32 → size < 2 ^ 32 → q < 2 ^ 32 → c < 2 ^ 32
    → Below (2 ^ 32) (first_words base size auto q c)
unfolding first_words
first_small base size auto q c hb hs hq hc zero = hb
first_small base size auto q c hb hs hq hc (suc zero) = hs
first_small base size auto q c hb hs hq hc (suc (suc zero)) = flag_small auto
first_small base size auto q c hb hs hq hc (suc (suc (suc zero))) = hq
first_small base size auto q c hb hs hq hc (suc (suc (suc (suc zero)))) = hc
first_small base size auto q c hb hs hq hc (suc (suc (suc (suc (suc zero))))) = omega arith
first_small base size auto q c hb hs hq hc (suc (suc (suc (suc (suc (suc zero)))))) = omega arith
first_small base size auto q c hb hs hq hc (suc (suc (suc (suc (suc (suc (suc zero))))))) = omega arith
first_small base size auto q c hb hs hq hc (suc (suc (suc (suc (suc (suc (suc (suc i)))))))) = omega arith

module _ (l n missing : List ℕ) (r : Register) (p : proper r ≡ true) (e : encodes l n missing r ≡ true) (b : Below 256 l)
    (base size : ℕ) (auto : Bool) (name : List ℕ) where
  abbrev u : ℕ
  u = 4 * length (encode_words r)

  abbrev q : ℕ
  q = length (record_names r.modules)

  abbrev new : Module
  new = new_module base size auto name

  modules : slice_index_or (words_in l) 0 0 ≡ length r.modules
  modules = sym (settled-other (words_in l) 0 (λ z. omega arith)) ∙ word₀ l n missing r p e

  first-words : first_words base size auto q (length name) ≡ module_words q new
  unfolding first_words module_words new_module export_words
  first-words = refl

  first-names : module_names new ≡ name
  unfolding module_names new_module export_names
  first-names = append-nil name

  -- the conditions of document 01's number 5, for the record's beginning
  pub begun
      : base < 2 ^ 32 → size < 2 ^ 32 → length r.modules < 64 → u + 32 ≤ room_in (length l) → q + length name ≤ room_in (length n)
      → (begin_record l n base size auto name
      ≡ (Some (draft_at u q (length name)), sets l u (flat (module_words q new)), sets n q (module_names new)))
      × Held l n (draft_at u q (length name)) new (sets l u (flat (module_words q new))) (sets n q (module_names new))
  unfolding begin_record draft_at
  begun hb hs few g gn =
      let a = used l n missing r p e b in
      let c = named l n missing r p e b in
      let lw : length (module_words q new) ≡ 8 = ap length (sym first-words) ∙ eight base size auto q (length name) in (
        rw (
          modules,
          lt-ltb (length r.modules) 64 few,
          a,
          c,
          le-leb (u + 32) (room_in (length l)) g,
          le-leb (q + length name)
              (room_in (length n)) gn,
          first-words,
          first-names,
        ),
        record {
          end = omega arith;
          last = ap (λ t. q + length t) (sym first-names);
          words = refl;
          bytes = refl;
          room = g;
          name-room = gn;
          small =
              subst (Below (2 ^ 32)) first-words
              (first_small base size auto q (length name) hb hs (omega (arith, gn, room_word (length n))) (omega (arith, gn, room_word (length n))));
        },
      )

  pub not-begun
      : (nat_lt (length r.modules) 64 && (nat_le (u + 32) (room_in (length l)) && nat_le (q + length name) (room_in (length n)))) ≡ false
      → begin_record l n base size auto name ≡ (None, l, n)
  unfolding begin_record
  not-begun g = rw (modules, used l n missing r p e b, named l n missing r p e b, g)
