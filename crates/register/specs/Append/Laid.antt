-- Each step on a buffer that holds the words of a record from the draft's start on: the words that it then holds.
use Rattle.std.specs.Prelude.{if◌then◌else◌, ◌≡◌, ℕ, zero, suc, ◌+◌, ◌-◌, ◌*◌, ◌%◌, ◌^◌, ◌<◌, ◌≤◌, Bool, true, false, leb, List, [], ◌∷◌, ◌++◌, length, take, drop, nat_le, slice_index, slice_index_or, slice_set, refl, Option, Some, None}
use Rattle.std.proofs.Common.{sym, ap, ◌∙◌, append_assoc, arith, length-drop, drop_at, drop-drop, length-take-le, leb-true}
use Rattle.std.proofs.Math.ListN.{length-append, get_or-append}
use Rattle.std.proofs.lemmas.List.Edits.{sets, sets-eq}
use Rattle.std.proofs.Math.Seq.{length-sets}
use Rattle.std.proofs.lemmas.List.{drop-append-le, take-append-le}
use Rattle.window.specs.Word.{word_in, set_word_in}
use Rattle.register.specs.Words.{part, flat}
use Rattle.register.specs.Buffers.{Below}
use Rattle.register.specs.declared.append.draft.Draft.{Draft}
use Rattle.register.specs.Append.Sets.{push_laid, change-laid, word-laid}
use Rattle.register.specs.Append.Draft.{room_in, longer, count_up, opened, push_listed}

-- a part of what was laid
pub part_sets
    : (l : List ℕ) (o : ℕ) (bs : List ℕ) (i n : ℕ) → o + length bs ≤ length l → i + n ≤ length bs → part (sets l o bs) (o + i) n ≡ part bs i n
unfolding part
part_sets l o bs i n h g =
    let r = drop (o + length bs) l in
    let e : sets l o bs ≡ take o l ++ (bs ++ r) = sets-eq bs l o h ∙ append_assoc (take o l) bs r in
    let d : drop o (take o l ++ (bs ++ r)) ≡ bs ++ r = drop_at (take o l) (bs ++ r) o (length-take-le o l (omega arith)) in
    let k : length (drop i bs) ≡ length bs - i = length-drop i bs in
    ap (take n)
    (sym (drop-drop i o (sets l o bs)) ∙ ap (λ t. drop i (drop o t)) e ∙ ap (drop i) d ∙ drop-append-le i bs r (omega arith))
    ∙ take-append-le n (drop i bs) r (omega arith)

pub below_append : (a b : List ℕ) (n : ℕ) → Below n a → Below n b → Below n (a ++ b)
below_append [] b n ha hb i = hb i
below_append (x ∷ a) b n ha hb zero = ha 0
below_append (x ∷ a) b n ha hb (suc i) = below_append a b n (λ k. ha (suc k)) hb i

pub below_one : (v : ℕ) → v < 2 ^ 32 → Below (2 ^ 32) (v ∷ [])
below_one v h zero = h
below_one v h (suc i) = omega arith

pub below_three : (x y z : ℕ) → x < 2 ^ 32 → y < 2 ^ 32 → z < 2 ^ 32 → Below (2 ^ 32) (x ∷ y ∷ z ∷ [])
below_three x y z hx hy hz zero = hx
below_three x y z hx hy hz (suc zero) = hy
below_three x y z hx hy hz (suc (suc zero)) = hz
below_three x y z hx hy hz (suc (suc (suc i))) = omega arith

module _ (l : List ℕ) (d : Draft) (ws : List ℕ) (e : d.end ≡ d.start + 4 * length ws) (b : Below (2 ^ 32) ws) where
  abbrev pub held : List ℕ
  held = sets l d.start (flat ws)

  -- a count one higher
  count-laid
      : (vs : List ℕ) (field : ℕ) → field < length ws → d.start + 4 * length (ws ++ vs) ≤ length l → Below (2 ^ 32) (ws ++ vs)
      → slice_index ws field + 1 < 2 ^ 32
      → set_word_in (sets l d.start (flat (ws ++ vs))) (d.start + 4 * field)
      ((word_in (sets l d.start (flat (ws ++ vs))) (d.start + 4 * field) + 1) % 2 ^ 32)
      ≡ sets l d.start (flat (slice_set (ws ++ vs) field (slice_index ws field + 1)))
  count-laid vs field h g c s =
      let n : length (ws ++ vs) ≡ length ws + length vs = length-append ws vs in
      let w : word_in (sets l d.start (flat (ws ++ vs))) (d.start + 4 * field) ≡ slice_index_or ws field 0 =
      word-laid l d.start (ws ++ vs) field g c (omega arith) ∙ get_or-append ws vs 0 field h in
      let m : (slice_index ws field + 1) % 2 ^ 32 ≡ slice_index ws field + 1 = omega arith in
      rw (w, m) (change-laid l d.start (ws ++ vs) field (slice_index ws field + 1) (omega arith))

  -- an address at the end, counted
  pub listed-laid
      : (field v : ℕ) → field < length ws → v < 2 ^ 32 → slice_index ws field + 1 < 2 ^ 32 → room_in (length l) ≤ length l → opened d held ≡ true
      → push_listed held d field v
      ≡ (if leb (d.end + 4) (room_in (length l))
      then (Some (longer d 4), sets l d.start (flat (slice_set (ws ++ (v ∷ [])) field (slice_index ws field + 1))))
      else (None, held))
  unfolding push_listed count_up longer
  listed-laid field v h k s r o =
      rw (o, length-sets l d.start (flat ws)) (go (nat_le (d.end + 4) (room_in (length l))) refl)
    where
      n : length (ws ++ (v ∷ [])) ≡ length ws + 1
      n = length-append ws (v ∷ [])

      pushed : set_word_in held d.end v ≡ sets l d.start (flat (ws ++ (v ∷ [])))
      pushed = rw e (push_laid l d.start ws v)

      go
          : (t : Bool) → nat_le (d.end + 4) (room_in (length l)) ≡ t
          → ◌≡◌ {A = Option Draft × List ℕ}
          (if t then (
            Some (longer d 4),
            set_word_in (set_word_in held d.end v) (d.start + 4 * field)
                ((word_in (set_word_in held d.end v) (d.start + 4 * field) + 1) % 2 ^ 32),
          )
          else (None, held))
          (if t then (Some (longer d 4), sets l d.start (flat (slice_set (ws ++ (v ∷ [])) field (slice_index ws field + 1)))) else (None, held))
      go true p =
          let g : d.end + 4 ≤ room_in (length l) = leb-true (d.end + 4) (room_in (length l)) p in
          ap (λ t. (Some (longer d 4), t))
          (rw pushed (count-laid (v ∷ []) field h (omega (arith, n)) (below_append ws (v ∷ []) (2 ^ 32) b (below_one v k)) s))
      go false p = refl
