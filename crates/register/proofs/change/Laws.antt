-- From the code's loops to the definitions of `Bytes`.
use Rattle.std.proofs.Common.{◌≡◌, ℕ, suc, ◌+◌, ◌-◌, ◌*◌, ◌<◌, ◌≤◌, List, [], ◌++◌, length, take, drop, replicate, ap, ◌∙◌, subst, append_assoc, append-nil, arith, length-drop, drop_of_length-le, length-take-le, take_all, drop-drop}
use lib.Seq.{paste, take-paste}
use borrow.Rule.Slice.PartMut.{put_mid, Post-is}
use Rattle.window.specs.Word.{word_in}
use Rattle.register.specs.Words.{part, flat, words_in}
use Rattle.register.specs.Decode.{module_size}
use Rattle.register.specs.Encode.{record_words}
use Rattle.register.specs.Change.Bytes.{closed, names_end, lower_word, lower_exports, lower_header, cut_record}
use Rattle.register.specs.Change.Lower.{RecordsFrom}
use Rattle.register.specs.Change.Remove.{Leaving}

-- the bytes after the gap moved down over it, and the last bytes cleared
pub closed_in_steps
    : (l : List ℕ) (from gap : ℕ) {m zeros : List ℕ} → from + gap ≤ length l → length m ≡ length l
    → m ≡ paste l from (drop (from + gap) l) (length l - (from + gap))
    → zeros ≡ replicate (length (take (length m - (length m - gap)) (drop (length m - gap) m))) 0
    → put_mid (length m - gap) (length m - (length m - gap)) m zeros ≡ closed l from gap
unfolding closed
closed_in_steps l from gap {m} h same e f =
    let D = drop (from + gap) l in
    let n = length l - (from + gap) in
    let d : length D ≡ n = length-drop (from + gap) l in
    let p : length m - gap ≡ from + n = omega (arith, same, h) in
    let k : length m - (length m - gap) ≡ gap = omega (arith, same, h) in
    let first : take (length m - gap) m ≡ take from l ++ D =
    ap (λ i. take i m) p ∙ ap (take (from + n)) e ∙ take-paste l from D n (omega arith) (omega (arith, d))
    ∙ ap (λ t. take from l ++ t) (take_all n D (omega (arith, d))) in
    let z : length (take (length m - (length m - gap)) (drop (length m - gap) m)) ≡ gap =
    length-take-le (length m - (length m - gap)) (drop (length m - gap) m) (omega (arith, length-drop (length m - gap) m)) ∙ k in
    let none : drop (length m - (length m - gap)) (drop (length m - gap) m) ≡ [] =
    drop-drop (length m - (length m - gap)) (length m - gap) m ∙ drop_of_length-le m (omega arith) in
    joined first (f ∙ ap (λ i. replicate i 0) z) none
  where
    joined
        : {a b c : List ℕ} → a ≡ take from l ++ drop (from + gap) l → b ≡ replicate gap 0 → c ≡ []
        → a ++ (b ++ c) ≡ take from l ++ (drop (from + gap) l ++ replicate gap 0)
    joined ea eb ec =
        rw (ea, eb, ec) (ap (λ t. (take from l ++ drop (from + gap) l) ++ t) (append-nil (replicate gap 0)) ∙ append_assoc (take from l) (drop (from + gap) l) (replicate gap 0))

-- exports, k of n done
pub exports_turn
    : (n k : ℕ) (b : List ℕ) (place d : ℕ) → k < n
    → lower_exports (n - (k + 1)) (lower_word b place d) (place + 12) d ≡ lower_exports (n - k) b place d
unfolding lower_exports
exports_turn n k b place d h = let e : n - k ≡ suc (n - (k + 1)) = omega arith in rw (e, lower_exports)

pub exports_end_lem : (n k : ℕ) (b : List ℕ) (place d : ℕ) → n ≤ k → b ≡ lower_exports (n - k) b place d
unfolding lower_exports
exports_end_lem n k b place d h = let e : n - k ≡ 0 = omega arith in rw (e, lower_exports)

-- the size of the record that a part from p on begins with
pub size-part
    : (l : List ℕ) (p : ℕ) {r : ℕ} → r ≡ module_size (words_in (take (length l - p) (drop p l))) → r ≡ module_size (words_in (drop p l))
size-part l p e =
    let d : length (drop p l) ≡ length l - p = length-drop p l in
    e ∙ ap (λ t. module_size (words_in t)) (take_all (length l - p) (drop p l) (omega arith))

-- the record cut out, in steps
pub cut_in_steps
    : (records : List ℕ) (place size gap used : ℕ) {lowered closer last : List ℕ} → used ≡ word_in records 12 → place + size ≤ used
    → ((s : RecordsFrom gap (take (used - (place + size)) (drop (place + size) records))) → lowered ≡ flat (record_words (s.from - gap) s.modules))
    → closer ≡ closed (put_mid (place + size) (used - (place + size)) records lowered) place size → last ≡ lower_header closer size gap
    → (s : RecordsFrom gap (part records (place + size) (word_in records 12 - (place + size))))
    → last ≡ cut_record records place size gap (flat (record_words (s.from - gap) s.modules))
unfolding cut_record part
cut_in_steps records place size gap used u h low shut head s =
    let t = low record { from = s.from; modules = s.modules; are = rw u s.are; least = s.least; small = s.small } in
    rw (head, shut, t, Post-is (place + size) used records h, u)

-- what the code finds of the record that leaves
module _ {records names : List ℕ} {place : ℕ} {left : List ℕ × List ℕ} (n : Leaving records names place left) where
  pub size-found : (m : ℕ) → m ≡ module_size (words_in (take (length records - place) (drop place records))) → 4 * m ≡ n.size
  size-found m e = ap (λ t. 4 * t) (size-part records place e) ∙ n.size_is

  pub end_found : (end size : ℕ) → end ≡ names_end records (place + size) → size ≡ n.size → end ≡ n.offset + n.gap
  end_found end size e es = e ∙ ap (λ t. names_end records (place + t)) es ∙ n.end_is

  pub later_found : (size gap : ℕ) → size ≡ n.size → gap ≡ n.gap → RecordsFrom gap (part records (place + size) (word_in records 12 - (place + size)))
  later_found size gap es eg = rw (es, eg) n.later

-- the record removed, in steps
pub removed_in_steps
    : {records names : List ℕ} {place : ℕ} {left : List ℕ × List ℕ} (n : Leaving records names place left) (size gap first : ℕ) {last closer : List ℕ}
    → size ≡ n.size → gap ≡ n.gap → first ≡ n.offset
    → ((s : RecordsFrom gap (part records (place + size) (word_in records 12 - (place + size))))
    → last ≡ cut_record records place size gap (flat (record_words (s.from - gap) s.modules)))
    → closer ≡ closed names first gap → ◌≡◌ {A = List ℕ × List ℕ} (last, closer) left
removed_in_steps {records} {names} {place} {left} n size gap first {last} {closer} es eg ef cut shut =
    let Cut : ℕ → ℕ → Type 0 =
    λ size gap. (s : RecordsFrom gap (part records (place + size) (word_in records 12 - (place + size))))
    → last ≡ cut_record records place size gap (flat (record_words (s.from - gap) s.modules)) in
    let c : Cut n.size n.gap = subst (λ t. Cut n.size t) eg (subst (λ t. Cut t gap) es cut) in
    let x : last ≡ left.0 = c n.later ∙ n.cut in
    let y : closer ≡ left.1 = shut ∙ ap (λ t. closed names t gap) ef ∙ ap (closed names n.offset) eg ∙ n.named-closed in
    rw (x, y)
