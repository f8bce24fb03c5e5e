-- Bytes that stand in a row inside a window: one range test for all of them.
use Rattle.std.specs.Prelude.{if◌then◌else◌, ◌≡◌, ℕ, suc, ◌+◌, ◌%◌, ◌^◌, ◌<◌, ◌≤◌, Bool, true, false, ◌&&◌, nat_le, refl, Option, Some, None}
use Rattle.std.proofs.Common.{sym, ap, ◌∙◌, arith, leb-true}
use Rattle.window.specs.Memory.{place}
use Rattle.window.specs.Bytes.{place-mod, place_on}
use Rattle.window.specs.Tests.{both}

-- where the `count` bytes from x on stand among n, if they do not go on at 0 and are all inside
unfoldable pub row_of : (at n x count : ℕ) → Option ℕ
row_of at n x count =
    if nat_le (place at x + count) (2 ^ 32) && nat_le (place at x + count) n then Some (place at x) else None

-- the `count` bytes from x on stand in a row, inside, from place i on
abbrev pub Stands : (at n x count i : ℕ) → Type 0
Stands at n x count i = (i ≡ place at x) × (i + count ≤ 2 ^ 32) × (i + count ≤ n)

place_or : ℕ → Option ℕ → ℕ
place_or other (Some i) = i
place_or other None = other

pub not-elsewhere : {i : ℕ} → ◌≡◌ {A = Option ℕ} None (Some i) → ⊥
unfolding place_or
not-elsewhere {i} e = omega (arith, ap (place_or (suc i)) e)

-- a row behind a test
pub row-tested : (b : Bool) (r : Option ℕ) {i : ℕ} → (if b then r else None) ≡ Some i → (b ≡ true) × (r ≡ Some i)
row-tested true r e = (refl, e)
row-tested false r e = absurd (not-elsewhere e)

pub row_stands : (at n x count : ℕ) {i : ℕ} → row_of at n x count ≡ Some i → Stands at n x count i
unfolding row_of place_or
row_stands at n x count {i} e =
    let t = row-tested (nat_le (place at x + count) (2 ^ 32) && nat_le (place at x + count) n) (Some (place at x)) e in
    let b = both (nat_le (place at x + count) (2 ^ 32)) _ t.0 in
    let p : i ≡ place at x = sym (ap (place_or 0) t.1) in
    (p, rw p (leb-true _ _ b.0), rw p (leb-true _ _ b.1))

-- a part of them, k bytes on
pub stands_part
    : (at n x count i k part : ℕ) → Stands at n x count i → k + part ≤ count → 0 < part → Stands at n ((x + k) % 2 ^ 32) part (i + k)
stands_part at n x count i k part s l some =
    let e : place at ((x + k) % 2 ^ 32) ≡ i + k =
    place-mod at (x + k) ∙ place_on at x k (omega (arith, s.0, s.1)) ∙ ap (λ j. j + k) (sym s.0) in
    (sym e, omega (arith, s.1), omega (arith, s.2))

pub stands_first : (at n x count i part : ℕ) → Stands at n x count i → part ≤ count → Stands at n x part i
stands_first at n x count i part s l = (s.0, omega (arith, s.1), omega (arith, s.2))
