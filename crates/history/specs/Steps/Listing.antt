-- The list that the title walks: each module's next is the one after it, its previous the one before it, the first one's the last.
use Prim.Native.Nat.{ℕ, zero, suc, pred, ◌^◌, ◌≤◌, ◌<◌}
use Rattle.std.specs.Prelude.{if◌then◌else◌, ◌≡◌, refl, ◌≢◌, true, ltb}
use Rattle.std.proofs.Common.{sym, ◌∙◌, ne_eqb, lt-ltb, le-ltb}
use Rattle.std.proofs.Math.Path.{ap}
use native.Mathlib.Omega.{arith}
use Rattle.std.proofs.Math.Decide.{ℕ_discrete}
use Rattle.window.specs.Access.{◌>>◌}
use Rattle.layout.specs.Segments.{field, set_field}
use Rattle.linker_spec.specs.Lists.{becomes_head, becomes_tail, register}
use Rattle.history.specs.Steps.Wp.{Memory, Does, does_mono, does_then, does_read}
use Rattle.history.specs.Steps.Reading.{plain-sum}
use Rattle.history.specs.Steps.Links.{Links}
use Rattle.history.specs.Steps.AllModulesShow.{Modules, Sound, AllModulesShow, All, base, put, put_same, put_other, sets_next, sets_previous, reads_next, reads_previous}

-- of n modules at these bases, number 0 being the CRS: "The CRS's next heads the auto-linked list", "a head's previous is the tail"
unfoldable pub next_in : (ℕ → ℕ) → ℕ → ℕ → ℕ
next_in b n k = if ltb (suc k) n then b (suc k) else 0

unfoldable pub previous_in : (ℕ → ℕ) → ℕ → ℕ → ℕ
previous_in b n zero = 0
previous_in b n (suc zero) = b (pred n)
previous_in b n (suc (suc k)) = b (suc k)

pub record ListWords (b : ℕ → ℕ) (n : ℕ) (next previous : ℕ → ℕ) : Type 0 where
  pub nexts : (k : ℕ) → k < n → next k ≡ next_in b n k
  pub previouses : (k : ℕ) → k < n → previous k ≡ previous_in b n k

pub next_more : (b : ℕ → ℕ) (n k : ℕ) → suc k < n → next_in b n k ≡ b (suc k)
unfolding next_in
next_more b n k l = rw (lt-ltb (suc k) n l) refl

pub next_last : (b : ℕ → ℕ) (n k : ℕ) → n ≤ suc k → next_in b n k ≡ 0
unfolding next_in
next_last b n k l = rw (le-ltb (suc k) n l) refl

-- one module more, number n: the last one's next is it, the first one's previous too
module _ (b : ℕ → ℕ) (n : ℕ) (some : 0 < n) {x y : ℕ → ℕ} (h : ListWords b n x y) where
  next-after : (k : ℕ) → k < suc n → put (put x (pred n) (b n)) n 0 k ≡ next_in b (suc n) k
  next-after k l = go (ℕ_discrete k n) (ℕ_discrete k (pred n))
    where
      go : Dec (k ≡ n) → Dec (k ≡ pred n) → put (put x (pred n) (b n)) n 0 k ≡ next_in b (suc n) k
      go (yes e) d = rw e (put_same (put x (pred n) (b n)) n 0 ∙ sym (next_last b (suc n) n (omega arith)))
      go (no o) (yes e) =
          let z : suc (pred n) ≡ n = omega arith in
          put_other (put x (pred n) (b n)) n 0 k o
          ∙ rw e (put_same x (pred n) (b n) ∙ sym (next_more b (suc n) (pred n) (omega arith) ∙ ap b z))
      go (no o) (no e) =
          put_other (put x (pred n) (b n)) n 0 k o
          ∙ put_other x (pred n) (b n) k e
          ∙ h.nexts k (omega arith)
          ∙ next_more b n k (omega arith)
          ∙ sym (next_more b (suc n) k (omega arith))

  previous-first : n ≡ 1 → (k : ℕ) → k < suc n → put y n (b n) k ≡ previous_in b (suc n) k
  unfolding previous_in
  previous-first e zero l = put_other y n (b n) 0 (λ z. absurd (omega arith)) ∙ h.previouses 0 some
  previous-first e (suc zero) l = rw (← e) (put_same y n (b n))
  previous-first e (suc (suc k)) l = absurd (omega arith)

  previous-after : 1 < n → (k : ℕ) → k < suc n → put (put y n (b (pred n))) 1 (b n) k ≡ previous_in b (suc n) k
  unfolding previous_in
  previous-after g zero l =
      put_other (put y n (b (pred n))) 1 (b n) 0 (λ z. absurd (omega arith))
      ∙ put_other y n (b (pred n)) 0 (λ z. absurd (omega arith))
      ∙ h.previouses 0 some
  previous-after g (suc zero) l = put_same (put y n (b (pred n))) 1 (b n)
  previous-after g (suc (suc k)) l = put_other (put y n (b (pred n))) 1 (b n) (suc (suc k)) (λ z. absurd (omega arith))
      ∙ go (ℕ_discrete (suc (suc k)) n)
    where
      go : Dec (suc (suc k) ≡ n) → put y n (b (pred n)) (suc (suc k)) ≡ b (suc k)
      go (yes e) = let z : pred n ≡ suc k = omega arith in rw e (put_same y n (b (pred n)) ∙ ap b z)
      go (no o) = put_other y n (b (pred n)) (suc (suc k)) o ∙ h.previouses (suc (suc k)) (omega arith)

module _ (C : Modules) (sound : Sound C) (nonzero : (k : ℕ) → k < C.number → base C sound k ≢ 0) where
  abbrev S : ℕ → Type 0
  S = All C sound

  abbrev b : ℕ → ℕ
  b = base C sound

  pub base-low : (k : ℕ) → k < C.number → b k < 2 ^ 32
  base-low k l =
      let p = plain-sum (C.image k) (sound.laid k l) (sound.low k l) 0 (omega (arith, (sound.laid k l).alone.header-inside)) in omega (arith, p)

  -- the new module is number n; the others are listed
  module _ (n : ℕ) (few : C.number ≡ suc n) (some : 0 < n) where
    abbrev ListedAtEnd : (ℕ → Links) → Memory → Type 0
    ListedAtEnd φ N = (x : ℕ → ℕ) × (y : ℕ → ℕ) × AllModulesShow C φ x y N × ListWords b (suc n) x y

    -- alone after the CRS
    first_enters
        : {φ : ℕ → Links} {x y : ℕ → ℕ} {M : Memory} → n ≡ 1 → AllModulesShow C φ x y M → ListWords b n x y
        → Does S (becomes_head (b 0) 0x88 (b n) >> set_field (b n) 0x88 0) (λ _ N. ListedAtEnd φ N) M
    unfolding becomes_head
    first_enters {φ} {x} {y} e w h =
        let z : 0 ≡ pred n = omega arith in
        does_then S (becomes_head (b 0) 0x88 (b n)) _
        (does_then S (set_field (b 0) 0x88 (b n)) _ (sets_next C sound 0 (b n) (omega arith) w)
        (λ _ N u. sets_previous C sound n (b n) (omega arith) u))
        (λ _ N u.
        does_mono S (sets_next C sound n 0 (omega arith) u)
        (λ _ L t. (
          put (put x 0 (b n)) n 0,
          put y n (b n),
          t,
          record { nexts = rw (← z) at (next-after b n some h); previouses = previous-first b n some h e },
        )))

    -- after the last one
    later_enters
        : {φ : ℕ → Links} {x y : ℕ → ℕ} {M : Memory} → 1 < n → AllModulesShow C φ x y M → ListWords b n x y
        → Does S (becomes_tail (b 1) (b n) >> set_field (b n) 0x88 0) (λ _ N. ListedAtEnd φ N) M
    unfolding becomes_tail previous_in
    later_enters {φ} {x} {y} {M} g w h =
        does_then S (becomes_tail (b 1) (b n)) _
        (does_read S (field (b 1) 0x8c) _ (b (pred n))
        (rw (h.previouses 1 g) at (reads_previous C sound 1 (omega arith) (rw (h.previouses 1 g) (base-low (pred n) (omega arith))) w))
        (does_then S (set_field (b (pred n)) 0x88 (b n)) _ (sets_next C sound (pred n) (b n) (omega arith) w)
        (λ _ N u.
        does_then S (set_field (b n) 0x8c (b (pred n))) _ (sets_previous C sound n (b (pred n)) (omega arith) u)
        (λ _ L t. sets_previous C sound 1 (b n) (omega arith) t))))
        (λ _ N u.
        does_mono S (sets_next C sound n 0 (omega arith) u)
        (λ _ L t. (
          put (put x (pred n) (b n)) n 0,
          put (put y n (b (pred n))) 1 (b n),
          t,
          record { nexts = next-after b n some h; previouses = previous-after b n some h g },
        )))

    -- the new module goes to the end
    pub enters : {φ : ℕ → Links} {x y : ℕ → ℕ} {M : Memory} → AllModulesShow C φ x y M → ListWords b n x y
        → Does S (register (b 0) (b n) true) (λ _ N. ListedAtEnd φ N) M
    unfolding register
    enters {φ} {x} {y} {M} w h = go (ℕ_discrete n 1)
      where
        go : Dec (n ≡ 1) → Does S (register (b 0) (b n) true) (λ _ N. ListedAtEnd φ N) M
        go (yes e) =
            let z : x 0 ≡ 0 = h.nexts 0 some ∙ next_last b n 0 (omega arith) in
            does_read S (field (b 0) 0x88) _ 0 (rw z at (reads_next C sound 0 (omega arith) (omega (arith, z)) w)) (first_enters e w h)
        go (no o) =
            let z : x 0 ≡ b 1 = h.nexts 0 some ∙ next_more b n 0 (omega arith) in
            does_read S (field (b 0) 0x88) _ (b 1) (rw z at (reads_next C sound 0 (omega arith) (rw z (base-low 1 (omega arith))) w))
            (rw (ne_eqb (b 1) 0 (nonzero 1 (omega arith))) (later_enters (omega arith) w h))
