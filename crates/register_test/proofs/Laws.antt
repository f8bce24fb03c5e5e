-- The slots of the missing list, and the whole test part by part.
use Prim.Native.Nat.{ℕ, suc, ◌+◌, ◌-◌, ◌≤◌, ◌<◌}
use mathlib.Core.Path.{◌≡◌, ◌∙◌}
use mathlib.Core.List.{List}
use mathlib.Core.Bool.{Bool, true, false, ◌&&◌}
use native.Mathlib.Omega.{arith}
use lib.ListN.{length, take, drop, get_or}
use lib.Seq.{drop-drop}
use lib.Dec.{eqb, leb}
use borrow.Author.Tests.{le-leb, lt-leb}
use Rattle.window.specs.Name.{no_zero}
use Rattle.register.specs.Words.{all_zero, words_in}
use Rattle.register.specs.Decode.{slot_length, slot_name, settled, settled-other, is_register}
use Rattle.register.specs.Check.{slot_ok, slots_ok, counts_ok, sizes_ok, contents_ok, checked, passes}
use Rattle.register.specs.CheckIs.{passes_is}
use Rattle.register.proofs.Laws.{part-whole}

-- the slots: `count` in all, k seen, place being 514 k

module _ (bytes : List ℕ) (count k place : ℕ) {t : Bool} (h : k < count) (s : t ≡ slot_ok (take (place + 514 - place) (drop place bytes))) where
  first : t ≡ slot_ok (take 514 (drop place bytes))
  first = let e : place + 514 - place ≡ 514 = omega arith in s ∙ rw e

  pub slot_bad : t ≡ false → false ≡ slots_ok (count - k) (drop place bytes)
  unfolding slots_ok
  slot_bad z = let m : count - k ≡ suc (count - (k + 1)) = omega arith in rw (m, ← first, z)

  pub slot_on : t ≡ true → slots_ok (count - (k + 1)) (drop (place + 514) bytes) ≡ slots_ok (count - k) (drop place bytes)
  unfolding slots_ok
  slot_on z = let m : count - k ≡ suc (count - (k + 1)) = omega arith in rw (m, ← first, z, ← drop-drop 514 place bytes)

pub slots_end : (bytes : List ℕ) (count k place : ℕ) → count ≤ k → true ≡ slots_ok (count - k) (drop place bytes)
unfolding slots_ok
slots_end bytes count k place h = let m : count - k ≡ 0 = omega arith in rw m

-- one slot, by its length

module _ (s : List ℕ) {n : ℕ} (e : n ≡ slot_length s) where
  pub slot_long : 512 < n → false ≡ slot_ok s
  unfolding slot_ok
  slot_long h = rw (← e, lt-leb n 512 h)

  name : take (2 + n - 2) (drop 2 s) ≡ slot_name s
  unfolding slot_name
  name = part-whole s 2 n ∙ rw e

  pub slot-zero : {t : Bool} → n ≤ 512 → t ≡ no_zero (take (2 + n - 2) (drop 2 s)) → t ≡ false → false ≡ slot_ok s
  unfolding slot_ok
  slot-zero h f z = rw (← e, le-leb n 512 h, ← name, ← f, z)

  pub slot-rest : {t u : Bool} → n ≤ 512 → t ≡ no_zero (take (2 + n - 2) (drop 2 s)) → t ≡ true → u ≡ all_zero (drop (2 + n) s) → u ≡ slot_ok s
  unfolding slot_ok
  slot-rest h f z g = rw (← e, le-leb n 512 h, ← name, ← f, z) g

-- the whole test, from its first failing part or to its end

counts-settled : (ws : List ℕ) → counts_ok (settled ws) ≡ counts_ok ws
unfolding counts_ok
counts-settled ws =
    rw (
      settled-other ws 0 (λ e. omega arith),
      settled-other ws 5 (λ e. omega arith),
      settled-other ws 6 (λ e. omega arith),
      settled-other ws 7 (λ e. omega arith),
      settled-other ws 1 (λ e. omega arith),
      settled-other ws 2 (λ e. omega arith),
    )

module _ (records names missing : List ℕ) (small : (i : ℕ) → get_or missing i 0 < 256) where
  abbrev ws : List ℕ
  ws = words_in records

  -- the parts of the test, as the code has them
  abbrev steps : ℕ → ℕ → Bool
  steps u n =
      leb 32 (length records)
      && (counts_ok ws
      && (sizes_ok u n (length records) (length names)
      && (eqb (length missing) 32896 && contents_ok (get_or ws 0 0) u n (get_or ws 5 0) records names missing)))

  pub in_steps : {u n : ℕ} {r : Bool} → u ≡ get_or (settled ws) 3 0 → n ≡ get_or ws 4 0 → r ≡ steps u n → r ≡ is_register records names missing
  unfolding passes checked
  in_steps {u} {n} eu en er =
      er
      ∙ rw (
        eu,
        en,
        ← counts-settled ws,
        ← settled-other ws 0 (λ e. omega arith),
        ← settled-other ws 5 (λ e. omega arith),
        ← settled-other ws 4 (λ e. omega arith),
      )
      (passes_is records names missing small)
