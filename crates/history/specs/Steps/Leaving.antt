-- A module leaves the list: the one before it and the one after it close the gap.
use Prim.Native.Nat.{ℕ, zero, suc, pred, ◌+◌, ◌^◌, ◌≤◌, ◌<◌}
use Rattle.std.specs.Prelude.{if◌then◌else◌, ◌≡◌, refl, ◌≢◌, ltb}
use Rattle.std.proofs.Common.{sym, ◌∙◌, subst, eq-eqb, ne_eqb, lt-ltb, le-ltb}
use Rattle.std.proofs.Math.Path.{ap}
use native.Mathlib.Omega.{arith}
use Rattle.std.proofs.Math.Decide.{dec_lt, ℕ_discrete}
use Rattle.std.proofs.Math.Dec.{eqb}
use Rattle.window.specs.Access.{ret, ◌>>=◌}
use Rattle.layout.specs.Segments.{field, set_field}
use Rattle.linker_spec.specs.Lists.{head_leaves, middle_leaves, new_tail, tail_leaves, other_leaves, leaves, unregister}
use Rattle.history.specs.Steps.Wp.{Memory, Does, does_mono, does_ret, does_then, does_read}
use Rattle.history.specs.Steps.Parts.{image_area}
use Rattle.history.specs.Steps.Links.{Links}
use Rattle.history.specs.Steps.AllModulesShow.{Modules, Sound, AllModulesShow, All, base, put, put_same, put_other, sets_next, sets_previous, reads_next, reads_previous}
use Rattle.history.specs.Steps.Listing.{next_in, previous_in, ListWords, next_more, next_last, base-low}

-- the numbers without d
unfoldable pub skip : ℕ → ℕ → ℕ
skip d i = if ltb i d then i else suc i

pub skip-low : (d i : ℕ) → i < d → skip d i ≡ i
unfolding skip
skip-low d i l = rw (lt-ltb i d l) refl

pub skip-high : (d i : ℕ) → d ≤ i → skip d i ≡ suc i
unfolding skip
skip-high d i l = rw (le-ltb i d l) refl

pub skip_below : (n d i : ℕ) → d < n → i < pred n → skip d i < n
skip_below n d i g l =
    elim (dec_lt i d) [ yes q ↦ rw (skip-low d i q) (omega arith) | no q ↦ rw (skip-high d i (omega arith)) (omega arith) ]

pub skip-suc : (d i : ℕ) → skip (suc d) (suc i) ≡ suc (skip d i)
skip-suc d i =
    elim (dec_lt i d) [
      | yes l ↦ skip-low (suc d) (suc i) (omega arith) ∙ ap suc (sym (skip-low d i l))
      | no l ↦ skip-high (suc d) (suc i) (omega arith) ∙ ap suc (sym (skip-high d i (omega arith)))
    ]

pub skip-back : (d i : ℕ) → d < i → skip d (pred i) ≡ i
skip-back d i l = let e : suc (pred i) ≡ i = omega arith in skip-high d (pred i) (omega arith) ∙ e

pub skip-other : (d j k : ℕ) → skip d j ≡ skip d k → j ≡ k
skip-other d j k e = go (dec_lt j d) (dec_lt k d)
  where
    go : Dec (j < d) → Dec (k < d) → j ≡ k
    go (yes p) (yes q) = omega (arith, e, skip-low d j p, skip-low d k q)
    go (yes p) (no q) = omega (arith, e, skip-low d j p, skip-high d k (omega arith))
    go (no p) (yes q) = omega (arith, e, skip-high d j (omega arith), skip-low d k q)
    go (no p) (no q) = omega (arith, e, skip-high d j (omega arith), skip-high d k (omega arith))

previous_2 : (b : ℕ → ℕ) (n k : ℕ) → 2 ≤ k → previous_in b n k ≡ b (pred k)
unfolding previous_in
previous_2 b n zero l = absurd (omega arith)
previous_2 b n (suc zero) l = absurd (omega arith)
previous_2 b n (suc (suc k)) l = refl

previous_1 : (b : ℕ → ℕ) (n : ℕ) → previous_in b n 1 ≡ b (pred n)
unfolding previous_in
previous_1 b n = refl

previous_0 : (b : ℕ → ℕ) (n : ℕ) → previous_in b n 0 ≡ 0
unfolding previous_in
previous_0 b n = refl

-- n modules listed; number d leaves
module _ (b : ℕ → ℕ) (n d : ℕ) (above : 0 < d) (below : d < n) {x y : ℕ → ℕ} (h : ListWords b n x y) where
  -- the one before it gets the one after it, or 0
  pub next-left : (i : ℕ) → i < pred n → put x (pred d) (next_in b n d) (skip d i) ≡ next_in (λ k. b (skip d k)) (pred n) i
  next-left i l = go (dec_lt i d) (ℕ_discrete i (pred d))
    where
      after : (j : ℕ) → d ≤ j → j < pred n → x (suc j) ≡ next_in (λ k. b (skip d k)) (pred n) j
      after j g s = h.nexts (suc j) (omega arith) ∙ more (dec_lt (suc (suc j)) n)
        where
          more : Dec (suc (suc j) < n) → next_in b n (suc j) ≡ next_in (λ k. b (skip d k)) (pred n) j
          more (yes q) =
              next_more b n (suc j) q
              ∙ ap b (sym (skip-high d (suc j) (omega arith)))
              ∙ sym (next_more (λ k. b (skip d k)) (pred n) j (omega arith))
          more (no q) = next_last b n (suc j) (omega arith) ∙ sym (next_last (λ k. b (skip d k)) (pred n) j (omega arith))

      at : i ≡ pred d → next_in b n d ≡ next_in (λ k. b (skip d k)) (pred n) i
      at e = more (dec_lt (suc d) n)
        where
          more : Dec (suc d < n) → next_in b n d ≡ next_in (λ k. b (skip d k)) (pred n) i
          more (yes q) =
              let z : suc i ≡ d = omega arith in
              next_more b n d q
              ∙ ap b (sym (skip-high d d (omega arith)) ∙ ap (skip d) (sym z))
              ∙ sym (next_more (λ k. b (skip d k)) (pred n) i (omega arith))
          more (no q) = next_last b n d (omega arith) ∙ sym (next_last (λ k. b (skip d k)) (pred n) i (omega arith))

      go : Dec (i < d) → Dec (i ≡ pred d) → put x (pred d) (next_in b n d) (skip d i) ≡ next_in (λ k. b (skip d k)) (pred n) i
      go (yes g) (yes e) = rw (skip-low d i g, e) (put_same x (pred d) (next_in b n d) ∙ rw e at (at e))
      go (yes g) (no o) =
          rw (skip-low d i g)
          (put_other x (pred d) (next_in b n d) i o
          ∙ h.nexts i (omega arith)
          ∙ next_more b n i (omega arith)
          ∙ ap b (sym (skip-low d (suc i) (omega arith)))
          ∙ sym (next_more (λ k. b (skip d k)) (pred n) i (omega arith)))
      go (no g) e =
          rw (skip-high d i (omega arith))
          (put_other x (pred d) (next_in b n d) (suc i) (λ z. absurd (omega arith)) ∙ after i (omega arith) l)

  -- the one after it gets the one before it
  pub previous_middle
      : suc d < n → (i : ℕ) → i < pred n → put y (suc d) (previous_in b n d) (skip d i) ≡ previous_in (λ k. b (skip d k)) (pred n) i
  previous_middle s i l = go (ℕ_discrete i 0) (ℕ_discrete i 1) (ℕ_discrete i d) (dec_lt i d)
    where
      last : b (pred n) ≡ b (skip d (pred (pred n)))
      last = ap b (let z : suc (pred (pred n)) ≡ pred n = omega arith in sym (skip-high d (pred (pred n)) (omega arith) ∙ z))

      off : {u : ℕ} (k : ℕ) → k ≢ suc d → y k ≡ u → put y (suc d) (previous_in b n d) k ≡ u
      off k o e = put_other y (suc d) (previous_in b n d) k o ∙ e

      go
          : Dec (i ≡ 0) → Dec (i ≡ 1) → Dec (i ≡ d) → Dec (i < d)
          → put y (suc d) (previous_in b n d) (skip d i) ≡ previous_in (λ k. b (skip d k)) (pred n) i
      go (yes e) f g r =
          rw (e, skip-low d 0 above, previous_0 (λ k. b (skip d k)) (pred n))
          (off 0 (λ z. absurd (omega arith)) (h.previouses 0 (omega arith) ∙ previous_0 b n))
      go (no e) (yes f) (yes g) r =
          let q : d ≡ 1 = omega arith in
          rw (f, previous_1 (λ k. b (skip d k)) (pred n), skip-high d 1 (omega arith))
          (let z : 2 ≡ suc d = omega arith in
          rw z (put_same y (suc d) (previous_in b n d)) ∙ ap (previous_in b n) q ∙ previous_1 b n ∙ last)
      go (no e) (yes f) (no g) r =
          rw (f, previous_1 (λ k. b (skip d k)) (pred n), skip-low d 1 (omega arith))
          (off 1 (λ z. absurd (omega arith)) (h.previouses 1 (omega arith) ∙ previous_1 b n ∙ last))
      go (no e) (no f) (yes g) r =
          rw (previous_2 (λ k. b (skip d k)) (pred n) i (omega arith), g, skip-high d d (omega arith), skip-low d (pred d) (omega arith))
          (put_same y (suc d) (previous_in b n d) ∙ previous_2 b n d (omega arith))
      go (no e) (no f) (no g) (yes r) =
          rw (previous_2 (λ k. b (skip d k)) (pred n) i (omega arith), skip-low d i r, skip-low d (pred i) (omega arith))
          (off i (λ z. absurd (omega arith)) (h.previouses i (omega arith) ∙ previous_2 b n i (omega arith)))
      go (no e) (no f) (no g) (no r) =
          let z : suc (pred i) ≡ i = omega arith in
          rw (previous_2 (λ k. b (skip d k)) (pred n) i (omega arith), skip-high d i (omega arith), skip-high d (pred i) (omega arith), z)
          (off (suc i) (λ z. absurd (omega arith)) (h.previouses (suc i) (omega arith) ∙ previous_2 b n (suc i) (omega arith)))

  -- or, where it was the last of several, the first one gets it
  pub previous_tail : suc d ≡ n → 1 < d → (i : ℕ) → i < pred n → put y 1 (b (pred d)) (skip d i) ≡ previous_in (λ k. b (skip d k)) (pred n) i
  previous_tail s t i l = go (ℕ_discrete i 0) (ℕ_discrete i 1)
    where
      go : Dec (i ≡ 0) → Dec (i ≡ 1) → put y 1 (b (pred d)) (skip d i) ≡ previous_in (λ k. b (skip d k)) (pred n) i
      go (yes e) f =
          rw (e, skip-low d 0 above, previous_0 (λ k. b (skip d k)) (pred n))
          (put_other y 1 (b (pred d)) 0 (λ z. absurd (omega arith)) ∙ h.previouses 0 (omega arith) ∙ previous_0 b n)
      go (no e) (yes f) =
          let z : pred (pred n) ≡ pred d = omega arith in
          rw (f, previous_1 (λ k. b (skip d k)) (pred n), skip-low d 1 t, z, skip-low d (pred d) (omega arith)) (put_same y 1 (b (pred d)))
      go (no e) (no f) =
          rw (previous_2 (λ k. b (skip d k)) (pred n) i (omega arith), skip-low d i (omega arith), skip-low d (pred i) (omega arith))
          (put_other y 1 (b (pred d)) i f ∙ h.previouses i (omega arith) ∙ previous_2 b n i (omega arith))

  -- and where it was alone, nothing is left but the CRS
  pub previous-alone : n ≡ 2 → (i : ℕ) → i < pred n → y (skip d i) ≡ previous_in (λ k. b (skip d k)) (pred n) i
  previous-alone s i l =
      let z : i ≡ 0 = omega arith in
      rw (z, skip-low d 0 above, previous_0 (λ k. b (skip d k)) (pred n)) (h.previouses 0 (omega arith) ∙ previous_0 b n)

pub skip-not : (d i : ℕ) → skip d i ≢ d
skip-not d i e = go (dec_lt i d)
  where
    go : Dec (i < d) → ⊥
    go (yes l) = omega (arith, e, skip-low d i l)
    go (no l) = omega (arith, e, skip-high d i (omega arith))

module _ (C : Modules) (sound : Sound C) (nonzero : (k : ℕ) → k < C.number → base C sound k ≢ 0) where
  abbrev S : ℕ → Type 0
  S = All C sound

  abbrev b : ℕ → ℕ
  b = base C sound

  -- different modules have different bases
  pub distinct : (j k : ℕ) → j < C.number → k < C.number → j ≢ k → b j ≢ b k
  distinct j k l g o e =
      sound.apart j k (b j + 0) l g o (image_area (C.image j) (sound.laid j l) 0 (omega (arith, (sound.laid j l).alone.header-inside)))
      (rw e (image_area (C.image k) (sound.laid k g) 0 (omega (arith, (sound.laid k g).alone.header-inside))))

  module _ (n d : ℕ) (all : C.number ≡ n) (above : 0 < d) (below : d < n) (φ : ℕ → Links) (x y : ℕ → ℕ) (h : ListWords b n x y) where
    inside : (k : ℕ) → k < n → k < C.number
    inside k l = rw all l

    -- the list words of the others are those of the list without d
    abbrev ListWithout : Memory → Type 0
    ListWithout N = (u : ℕ → ℕ) × (t : ℕ → ℕ) × AllModulesShow C φ u t N × ListWords (λ k. b (skip d k)) (pred n) (λ k. u (skip d k)) (λ k. t (skip d k))

    next_is : x d ≡ next_in b n d
    next_is = h.nexts d below

    previous_is : y d ≡ previous_in b n d
    previous_is = h.previouses d below

    next_low : next_in b n d < 2 ^ 32
    next_low = go (dec_lt (suc d) n)
      where
        go : Dec (suc d < n) → next_in b n d < 2 ^ 32
        go (yes l) = rw (next_more b n d l) (base-low C sound nonzero (suc d) (inside (suc d) l))
        go (no l) = rw (next_last b n d (omega arith)) (omega arith)

    -- the one before it is module p
    before : (p : ℕ) × (p < n) × (0 < p) × (previous_in b n d ≡ b p)
    before = go (ℕ_discrete d 1)
      where
        go : Dec (d ≡ 1) → (p : ℕ) × (p < n) × (0 < p) × (previous_in b n d ≡ b p)
        go (yes e) = (pred n, omega arith, omega arith, ap (previous_in b n) e ∙ previous_1 b n)
        go (no o) = (pred d, omega arith, omega arith, previous_2 b n d (omega arith))

    previous-low : previous_in b n d < 2 ^ 32
    previous-low = let p = before in rw p.3 (base-low C sound nonzero p.0 (inside p.0 p.1))

    previous-not : previous_in b n d ≢ 0
    previous-not e = let p = before in nonzero p.0 (inside p.0 p.1) (sym p.3 ∙ e)

    -- the CRS's two words
    head_is : x 0 ≡ b 1
    head_is = h.nexts 0 (omega arith) ∙ next_more b n 0 (omega arith)

    other_is : y 0 ≡ 0
    other_is = h.previouses 0 (omega arith) ∙ previous_0 b n

    gone
        : {M : Memory} (t : ℕ → ℕ) → AllModulesShow C φ (put x (pred d) (next_in b n d)) t M
        → ((i : ℕ) → i < pred n → t (skip d i) ≡ previous_in (λ k. b (skip d k)) (pred n) i) → ListWithout M
    gone t w f = (put x (pred d) (next_in b n d), t, w, record { nexts = next-left b n d above below h; previouses = f })

    -- the head leaves
    head_goes : {M : Memory} → d ≡ 1 → AllModulesShow C φ x y M → Does S (head_leaves (b 0) 0x88 (next_in b n d) (previous_in b n d)) (λ _ N. ListWithout N) M
    unfolding head_leaves
    head_goes {M} e w = go (dec_lt (suc d) n)
      where
        z : 0 ≡ pred d
        z = omega arith

        go : Dec (suc d < n) → Does S (head_leaves (b 0) 0x88 (next_in b n d) (previous_in b n d)) (λ _ N. ListWithout N) M
        go (yes l) =
            let m = next_more b n d l in
            does_then S (if eqb (next_in b n d) 0 then ret tt else set_field (next_in b n d) 0x8c (previous_in b n d)) _
            (rw (m, ne_eqb (b (suc d)) 0 (nonzero (suc d) (inside (suc d) l)))
            (sets_previous C sound (suc d) (previous_in b n d) (inside (suc d) l) w))
            (λ _ N u.
            does_mono S (sets_next C sound 0 (next_in b n d) (inside 0 (omega arith)) u)
            (λ _ L t. gone (put y (suc d) (previous_in b n d)) (rw (← z) t) (previous_middle b n d above below h l)))
        go (no l) =
            let m = next_last b n d (omega arith) in
            does_then S (if eqb (next_in b n d) 0 then ret tt else set_field (next_in b n d) 0x8c (previous_in b n d)) _
            (rw m (does_ret S w))
            (λ _ N u.
            does_mono S (sets_next C sound 0 (next_in b n d) (inside 0 (omega arith)) u)
            (λ _ L t. gone y (rw (← z) t) (previous-alone b n d above below h (omega arith))))

    -- one of the middle leaves
    middle_goes
        : {M : Memory} → suc d < n → 1 < d → AllModulesShow C φ x y M → Does S (middle_leaves (next_in b n d) (previous_in b n d)) (λ _ N. ListWithout N) M
    unfolding middle_leaves
    middle_goes l g w =
        let m = next_more b n d l in
        let p = previous_2 b n d g in
        does_then S (set_field (previous_in b n d) 0x88 (next_in b n d)) _ {R = λ _ N. AllModulesShow C φ (put x (pred d) (next_in b n d)) y N}
        (rw p (sets_next C sound (pred d) (next_in b n d) (inside (pred d) (omega arith)) w))
        (λ _ N u.
        does_mono S (subst (λ a. Does S (set_field a 0x8c (previous_in b n d))
        (λ _ L. AllModulesShow C φ (put x (pred d) (next_in b n d)) (put y (suc d) (previous_in b n d)) L) N) (sym m)
        (sets_previous C sound (suc d) (previous_in b n d) (inside (suc d) l) u))
        (λ _ L t. gone (put y (suc d) (previous_in b n d)) t (previous_middle b n d above below h l)))

    -- the last of several leaves
    tail_goes : {M : Memory} → suc d ≡ n → 1 < d → AllModulesShow C φ x y M → Does S (tail_leaves (b 0) (b d) (previous_in b n d)) (λ _ N. ListWithout N) M
    unfolding tail_leaves new_tail
    tail_goes {M} s g w =
        let m : next_in b n d ≡ 0 = next_last b n d (omega arith) in
        let p = previous_2 b n d g in
        let z₀ : put x (pred d) 0 0 ≡ b 1 = put_other x (pred d) 0 0 (λ e. absurd (omega arith)) ∙ head_is in
        let z₁ : y 1 ≡ b d = h.previouses 1 (omega arith) ∙ previous_1 b n ∙ ap b (let q : pred n ≡ d = omega arith in q) in
        let t₀ : put y 1 (b (pred d)) 0 ≡ 0 = put_other y 1 (b (pred d)) 0 (λ e. absurd (omega arith)) ∙ other_is in
        rw p
        (does_then S (set_field (b (pred d)) 0x88 0) _ (sets_next C sound (pred d) 0 (inside (pred d) (omega arith)) w)
        (λ _ N u.
        does_then S (new_tail (b 0) 0x88 (b d) (b (pred d))) _ {R = λ _ L. AllModulesShow C φ (put x (pred d) 0) (put y 1 (b (pred d))) L}
        (does_read S (field (b 0) 0x88) _ (b 1)
        (rw z₀ at (reads_next C sound 0 (inside 0 (omega arith)) (rw z₀ (base-low C sound nonzero 1 (inside 1 (omega arith)))) u))
        (rw (ne_eqb (b 1) 0 (nonzero 1 (inside 1 (omega arith))))
        (does_read S (field (b 1) 0x8c) _ (b d)
        (rw z₁ at (reads_previous C sound 1 (inside 1 (omega arith)) (rw z₁ (base-low C sound nonzero d (inside d below))) u))
        (rw (eq-eqb (b d) (b d) refl) (sets_previous C sound 1 (b (pred d)) (inside 1 (omega arith)) u)))))
        (λ _ L t.
        does_read S (field (b 0) 0x8c) _ 0 (rw t₀ at (reads_previous C sound 0 (inside 0 (omega arith)) (rw t₀ (omega arith)) t))
        (does_ret S (gone (put y 1 (b (pred d))) (rw m t) (previous_tail b n d above below h s g))))))

    -- whichever it is
    goes
        : {M : Memory} → AllModulesShow C φ x y M → Does S (leaves (b 0) (b d) (next_in b n d) (previous_in b n d)) (λ _ N. ListWithout N) M
    unfolding leaves other_leaves
    goes {M} w =
        does_read S (field (b 0) 0x88) _ (b 1)
        (rw head_is at (reads_next C sound 0 (inside 0 (omega arith)) (rw head_is (base-low C sound nonzero 1 (inside 1 (omega arith)))) w))
        (go (ℕ_discrete d 1) (dec_lt (suc d) n))
      where
        go
            : Dec (d ≡ 1) → Dec (suc d < n)
            → Does S
            (if eqb (b 1) (b d) then head_leaves (b 0) 0x88 (next_in b n d) (previous_in b n d) else (field (b 0) 0x8c >>= λ second.
            if eqb second (b d) then head_leaves (b 0) 0x8c (next_in b n d) (previous_in b n d)
            else other_leaves (b 0) (b d) (next_in b n d) (previous_in b n d)))
            (λ _ N. ListWithout N) M
        go (yes e) f = rw (eq-eqb (b 1) (b d) (ap b (sym e))) (head_goes e w)
        go (no o) f =
            rw (ne_eqb (b 1) (b d) (distinct 1 d (inside 1 (omega arith)) (inside d below) (λ e. o (sym e))))
            (does_read S (field (b 0) 0x8c) _ 0
            (rw other_is at (reads_previous C sound 0 (inside 0 (omega arith)) (rw other_is (omega arith)) w))
            (rw (ne_eqb 0 (b d) (λ e. nonzero d (inside d below) (sym e))) (at f)))
          where
            at : Dec (suc d < n)
                → Does S (if eqb (next_in b n d) 0 then tail_leaves (b 0) (b d) (previous_in b n d) else middle_leaves (next_in b n d) (previous_in b n d))
                (λ _ N. ListWithout N) M
            at (yes l) =
                let q : next_in b n d ≢ 0 = λ e. nonzero (suc d) (inside (suc d) l) (sym (next_more b n d l) ∙ e) in
                rw (ne_eqb (next_in b n d) 0 q) (middle_goes l (omega arith) w)
            at (no l) = rw (eq-eqb (next_in b n d) 0 (next_last b n d (omega arith))) (tail_goes (omega arith) (omega arith) w)

    -- its own words are 0 then
    pub unregisters : {M : Memory} → AllModulesShow C φ x y M → Does S (unregister (b 0) (b d)) (λ _ N. ListWithout N) M
    unfolding unregister
    unregisters {M} w =
        does_read S (field (b d) 0x88) _ (next_in b n d)
        (rw next_is at (reads_next C sound d (inside d below) (rw next_is next_low) w))
        (does_read S (field (b d) 0x8c) _ (previous_in b n d)
        (rw previous_is at (reads_previous C sound d (inside d below) (rw previous_is previous-low) w))
        (rw (ne_eqb (previous_in b n d) 0 previous-not)
        (does_then S (leaves (b 0) (b d) (next_in b n d) (previous_in b n d)) _ (goes w)
        (λ _ N g.
        does_then S (set_field (b d) 0x88 0) _ (sets_next C sound d 0 (inside d below) g.2)
        (λ _ L u.
        does_mono S (sets_previous C sound d 0 (inside d below) u)
        (λ _ K t. (
          put g.0 d 0,
          put g.1 d 0,
          t,
          record {
            nexts = λ i l. put_other g.0 d 0 (skip d i) (skip-not d i) ∙ g.3.nexts i l;
            previouses = λ i l. put_other g.1 d 0 (skip d i) (skip-not d i) ∙ g.3.previouses i l;
          },
        )))))))
