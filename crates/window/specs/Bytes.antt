-- What stands at an address after each kind of write: "byte k of the value at x + k, else as before".
-- `place x y` is how far y lies above x, so "y is none of the n bytes from x on" is `n ≤ place x y`.
use Rattle.std.specs.Prelude.{if◌then◌else◌, ◌≡◌, ℕ, zero, suc, ◌+◌, ◌*◌, ◌/◌, ◌%◌, ◌^◌, ◌<◌, ◌≤◌, Bool, true, false, ◌&&◌, ◌≢◌, List, length, refl}
use Rattle.std.proofs.Common.{sym, ap, ◌∙◌, arith, length-set, get_or-set_same, get_or-set_other, lit<, lt-ltb, le-ltb, ltb-true, ltb-false}
use Rattle.std.proofs.Math.ListN.{get_or-eq_default}
use Rattle.std.proofs.Math.Seq.{set_out}
use Rattle.window.specs.Memory.{place, inside, byte_at, word_at, put_byte, put_bytes, put_word, put_upward, put_privileged}

-- addresses modulo 2 ^ 32

pub place-mod : (at x : ℕ) → place at (x % 2 ^ 32) ≡ place at x
unfolding place
place-mod at x = omega arith

-- what takes an address modulo 2 ^ 32 takes a sum of addresses so
pub sum-mod
    : {A : Type 0} (f : ℕ → A) → ((y : ℕ) → f (y % 2 ^ 32) ≡ f y) → (x k : ℕ) → f (x % 2 ^ 32 + k) ≡ f (x + k)
sum-mod f h x k =
    let e : (x % 2 ^ 32 + k) % 2 ^ 32 ≡ (x + k) % 2 ^ 32 = omega arith in
    sym (h (x % 2 ^ 32 + k)) ∙ ap f e ∙ h (x + k)

pub place-add : (at x k : ℕ) → place at (x % 2 ^ 32 + k) ≡ place at (x + k)
place-add at x k = sum-mod (place at) (place-mod at) x k

pub place-small : (at x : ℕ) → place at x < 2 ^ 32
unfolding place
place-small at x = omega arith

pub place_on : (at x k : ℕ) → place at x + k < 2 ^ 32 → place at (x + k) ≡ place at x + k
unfolding place
place_on at x k h = omega arith

pub place-next : (x y n : ℕ) → suc n ≤ place x y → n ≤ place (x + 1) y
unfolding place
place-next x y n h = omega arith

pub place_self : (at x y n : ℕ) → suc n ≤ place x y → place at y ≢ place at x
unfolding place
place_self at x y n h e = omega arith

pub place-back : (x n : ℕ) → suc n < 2 ^ 32 → n ≤ place (x + 1) x
unfolding place
place-back x n m = omega arith

pub place-ahead : (at x k : ℕ) → suc k < 2 ^ 32 → place at (x + 1 + k) ≢ place at x
unfolding place
place-ahead at x k m e = omega arith

pub place-within : (x y k : ℕ) → 4 ≤ place x y → 4 ≤ place y x → k < 4 → 4 ≤ place x (y + k)
unfolding place
place-within x y k h g l = omega arith

-- x is none of the four bytes of the word at y
pub place_none : (at x y k : ℕ) → 4 ≤ place y x → k < 4 → place at (y + k) ≢ place at x
unfolding place
place_none at x y k h l e = omega arith

pub inside-mod : (at : ℕ) (w : List ℕ) (x : ℕ) → inside at w (x % 2 ^ 32) ≡ inside at w x
unfolding inside
inside-mod at w x = rw place-mod

pub byte_at-mod : (at : ℕ) (w : List ℕ) (x : ℕ) → byte_at at w (x % 2 ^ 32) ≡ byte_at at w x
unfolding byte_at
byte_at-mod at w x = rw place-mod

pub byte_at-add : (at : ℕ) (w : List ℕ) (x k : ℕ) → byte_at at w (x % 2 ^ 32 + k) ≡ byte_at at w (x + k)
byte_at-add at w x k = sum-mod (byte_at at w) (byte_at-mod at w) x k

pub word_at-mod : (at : ℕ) (w : List ℕ) (x : ℕ) → word_at at w (x % 2 ^ 32) ≡ word_at at w x
unfolding word_at byte_at
word_at-mod at w x = simp (place-mod, place-add)

pub put_byte-mod : (at : ℕ) (w : List ℕ) (x v : ℕ) → put_byte at w (x % 2 ^ 32) v ≡ put_byte at w x v
unfolding put_byte
put_byte-mod at w x v = rw place-mod

pub put_byte-value : (at : ℕ) (w : List ℕ) (x v : ℕ) → put_byte at w x (v % 256) ≡ put_byte at w x v
unfolding put_byte
put_byte-value at w x v = let m : v % 256 % 256 ≡ v % 256 = omega arith in rw m

pub put_bytes-mod : (n at : ℕ) (w : List ℕ) (x v : ℕ) → put_bytes n at w (x % 2 ^ 32) v ≡ put_bytes n at w x v
unfolding put_bytes
put_bytes-mod zero at w x v = refl
put_bytes-mod (suc n) at w x v =
    rw put_byte-mod
    (sum-mod (λ y. put_bytes n at (put_byte at w x v) y (v / 256)) (λ y. put_bytes-mod n at (put_byte at w x v) y (v / 256)) x 1)

pub put_word-mod : (at : ℕ) (w : List ℕ) (x v : ℕ) → put_word at w (x % 2 ^ 32) v ≡ put_word at w x v
unfolding put_word
put_word-mod at w x v = put_bytes-mod 4 at w x v

pub put_upward-mod : (n at : ℕ) (w : List ℕ) (x v : ℕ) → put_upward n at w (x % 2 ^ 32) v ≡ put_upward n at w x v
unfolding put_upward
put_upward-mod zero at w x v = refl
put_upward-mod (suc n) at w x v =
    simp (
      inside-mod at w x,
      put_byte-mod,
      sum-mod (λ y. put_upward n at (put_byte at w x v) y (v / 256)) (λ y. put_upward-mod n at (put_byte at w x v) y (v / 256)) x 1,
    )

pub put_privileged-mod : (at : ℕ) (w : List ℕ) (x v : ℕ) → put_privileged at w (x % 2 ^ 32) v ≡ put_privileged at w x v
unfolding put_privileged
put_privileged-mod at w x v = put_upward-mod 4 at w x v

-- inside and outside

pub inside_yes : (at : ℕ) (w : List ℕ) (x : ℕ) → place at x < length w → inside at w x ≡ true
unfolding inside
inside_yes at w x h = lt-ltb (place at x) (length w) h

pub inside_no : (at : ℕ) (w : List ℕ) (x : ℕ) → length w ≤ place at x → inside at w x ≡ false
unfolding inside
inside_no at w x h = le-ltb (place at x) (length w) h

pub is_inside : (at : ℕ) (w : List ℕ) (x : ℕ) → inside at w x ≡ true → place at x < length w
unfolding inside
is_inside at w x e = ltb-true (place at x) (length w) e

pub is_outside : (at : ℕ) (w : List ℕ) (x : ℕ) → inside at w x ≡ false → length w ≤ place at x
unfolding inside
is_outside at w x e = ltb-false (place at x) (length w) e

pub byte_at-outside : (at : ℕ) (w : List ℕ) (x : ℕ) → length w ≤ place at x → byte_at at w x ≡ 0
unfolding byte_at
byte_at-outside at w x h = get_or-eq_default w 0 h

-- a write that begins outside: the byte is dropped, and a privileged write does nothing at all

pub put_byte-outside : (at : ℕ) (w : List ℕ) (x v : ℕ) → length w ≤ place at x → put_byte at w x v ≡ w
unfolding put_byte
put_byte-outside at w x v h = set_out w (place at x) (v % 256) h

pub put_bytes-outside
    : (n at : ℕ) (w : List ℕ) (x v : ℕ) → length w ≤ place at x → put_bytes (suc n) at w x v ≡ put_bytes n at w (x + 1) (v / 256)
unfolding put_bytes
put_bytes-outside n at w x v h = rw (put_byte-outside at w x v h)

pub put_upward-outside : (n at : ℕ) (w : List ℕ) (x v : ℕ) → length w ≤ place at x → put_upward n at w x v ≡ w
unfolding put_upward
put_upward-outside zero at w x v h = refl
put_upward-outside (suc n) at w x v h = simp (inside_no at w x h)

pub put_privileged-outside : (at : ℕ) (w : List ℕ) (x v : ℕ) → length w ≤ place at x → put_privileged at w x v ≡ w
unfolding put_privileged
put_privileged-outside at w x v h = put_upward-outside 4 at w x v h

-- what every byte write keeps, every write keeps

choose : (P : List ℕ → Type 0) (b : Bool) (u w : List ℕ) → P u → P w → P (if b then u else w)
choose P true u w g h = g
choose P false u w g h = h

module _ (P : List ℕ → Type 0) (at : ℕ) (kept : (u : List ℕ) (y z : ℕ) → P u → P (put_byte at u y z)) where
  pub put_bytes_keeps : (n : ℕ) (w : List ℕ) (x v : ℕ) → P w → P (put_bytes n at w x v)
  unfolding put_bytes
  put_bytes_keeps zero w x v h = h
  put_bytes_keeps (suc n) w x v h = put_bytes_keeps n (put_byte at w x v) (x + 1) (v / 256) (kept w x v h)

  pub put_upward_keeps : (n : ℕ) (w : List ℕ) (x v : ℕ) → P w → P (put_upward n at w x v)
  unfolding put_upward
  put_upward_keeps zero w x v h = h
  put_upward_keeps (suc n) w x v h =
      choose P (inside at w x) (put_upward n at (put_byte at w x v) (x + 1) (v / 256)) w
      (put_upward_keeps n (put_byte at w x v) (x + 1) (v / 256) (kept w x v h))
      h

-- the length is such

pub length-put_byte : (at : ℕ) (w : List ℕ) (x v : ℕ) → length (put_byte at w x v) ≡ length w
unfolding put_byte
length-put_byte at w x v = length-set w (place at x) (v % 256)

pub length-put_bytes : (n at : ℕ) (w : List ℕ) (x v : ℕ) → length (put_bytes n at w x v) ≡ length w
length-put_bytes n at w x v = put_bytes_keeps (λ u. length u ≡ length w) at (λ u y z e. length-put_byte at u y z ∙ e) n w x v refl

pub length-put_word : (at : ℕ) (w : List ℕ) (x v : ℕ) → length (put_word at w x v) ≡ length w
unfolding put_word
length-put_word at w x v = length-put_bytes 4 at w x v

pub length-put_upward : (n at : ℕ) (w : List ℕ) (x v : ℕ) → length (put_upward n at w x v) ≡ length w
length-put_upward n at w x v = put_upward_keeps (λ u. length u ≡ length w) at (λ u y z e. length-put_byte at u y z ∙ e) n w x v refl

pub length-put_privileged : (at : ℕ) (w : List ℕ) (x v : ℕ) → length (put_privileged at w x v) ≡ length w
unfolding put_privileged
length-put_privileged at w x v = length-put_upward 4 at w x v

-- so a write moves nothing in or out of the window
pub inside-length : (at : ℕ) (u w : List ℕ) (x : ℕ) → length u ≡ length w → inside at u x ≡ inside at w x
unfolding inside
inside-length at u w x e = rw e

-- one byte

pub byte_at-same : (at : ℕ) (w : List ℕ) (x v : ℕ) → place at x < length w → byte_at at (put_byte at w x v) x ≡ v % 256
unfolding byte_at put_byte
byte_at-same at w x v h = get_or-set_same w (place at x) (v % 256) 0 h

pub byte_at-other : (at : ℕ) (w : List ℕ) (x v y : ℕ) → place at y ≢ place at x → byte_at at (put_byte at w x v) y ≡ byte_at at w y
unfolding byte_at put_byte
byte_at-other at w x v y h = get_or-set_other w (place at x) (place at y) (v % 256) 0 h

-- byte k of v
unfoldable pub byte_of : ℕ → ℕ → ℕ
byte_of zero v = v % 256
byte_of (suc k) v = byte_of k (v / 256)

pub byte_of-small : (k v : ℕ) → byte_of k v < 256
unfolding byte_of
byte_of-small zero v = omega arith
byte_of-small (suc k) v = byte_of-small k (v / 256)

-- the word of four bytes, lowest first
abbrev pub join : (b₀ b₁ b₂ b₃ : ℕ) → ℕ
join b₀ b₁ b₂ b₃ = b₀ + 256 * (b₁ + 256 * (b₂ + 256 * b₃))

pub join-bytes : (v : ℕ) → join (byte_of 0 v) (byte_of 1 v) (byte_of 2 v) (byte_of 3 v) ≡ v % 2 ^ 32
unfolding byte_of
join-bytes v = omega arith

-- a word by its bytes
pub join-at
    : (M f : ℕ → ℕ) (x : ℕ) → ((k : ℕ) → k < 4 → M (x + k) ≡ f k)
    → join (M x) (M (x + 1)) (M (x + 2)) (M (x + 3)) ≡ join (f 0) (f 1) (f 2) (f 3)
join-at M f x h =
    let z : x + 0 ≡ x = omega arith in
    let b₀ : M x ≡ f 0 = rw z at (h 0 (lit< tt)) in
    rw (b₀, h 1 (lit< tt), h 2 (lit< tt), h 3 (lit< tt))

pub word_at-bytes
    : (at : ℕ) (w : List ℕ) (x : ℕ) (f : ℕ → ℕ) → ((k : ℕ) → k < 4 → byte_at at w (x + k) ≡ f k)
    → word_at at w x ≡ join (f 0) (f 1) (f 2) (f 3)
unfolding word_at
word_at-bytes at w x f h = join-at (byte_at at w) f x h

pub word_at_kept
    : (at : ℕ) (u w : List ℕ) (x : ℕ) → ((k : ℕ) → k < 4 → byte_at at u (x + k) ≡ byte_at at w (x + k)) → word_at at u x ≡ word_at at w x
word_at_kept at u w x h =
    word_at-bytes at u x (λ k. byte_at at w (x + k)) h ∙ sym (word_at-bytes at w x (λ k. byte_at at w (x + k)) (λ k l. refl))

-- a byte written that is none of the word's four
pub word_at-apart_byte
    : (at : ℕ) (w : List ℕ) (x v y : ℕ) → 4 ≤ place y x → word_at at (put_byte at w x v) y ≡ word_at at w y
word_at-apart_byte at w x v y h =
    word_at_kept at (put_byte at w x v) w y (λ k l. byte_at-other at w x v (y + k) (place_none at x y k h l))

-- the n bytes of an ordinary write: those outside are dropped, each by itself

pub put_bytes-off : (n at : ℕ) (w : List ℕ) (x v y : ℕ) → n ≤ place x y → byte_at at (put_bytes n at w x v) y ≡ byte_at at w y
unfolding put_bytes
put_bytes-off zero at w x v y h = refl
put_bytes-off (suc n) at w x v y h =
    put_bytes-off n at (put_byte at w x v) (x + 1) (v / 256) y (place-next x y n h)
    ∙ byte_at-other at w x v y (place_self at x y n h)

pub put_bytes_on
    : (n k at : ℕ) (w : List ℕ) (x v : ℕ) → k < n → n < 2 ^ 32 → place at (x + k) < length w
    → byte_at at (put_bytes n at w x v) (x + k) ≡ byte_of k v
unfolding put_bytes byte_of
put_bytes_on zero k at w x v l m h = elim l [ ]
put_bytes_on (suc n) zero at w x v l m h =
    let z : x + 0 ≡ x = omega arith in
    let i : place at x < length w = rw z at h in
    rw z
    (put_bytes-off n at (put_byte at w x v) (x + 1) (v / 256) x (place-back x n m)
    ∙ byte_at-same at w x v i)
put_bytes_on (suc n) (suc k) at w x v l m h =
    let z : x + suc k ≡ x + 1 + k = omega arith in
    let i : place at (x + 1 + k) < length (put_byte at w x v) = rw (length-put_byte, ← z) h in
    rw z (put_bytes_on n k at (put_byte at w x v) (x + 1) (v / 256) (omega arith) (omega arith) i)

-- what is read back of byte k: the window's edge may cut the write
abbrev pub stored : (at : ℕ) → List ℕ → (x v k : ℕ) → ℕ
stored at w x v k = if inside at w (x + k) then byte_of k v else 0

pub put_bytes-at
    : (n k at : ℕ) (w : List ℕ) (x v : ℕ) → k < n → n < 2 ^ 32 → byte_at at (put_bytes n at w x v) (x + k) ≡ stored at w x v k
put_bytes-at n k at w x v l m = go (inside at w (x + k)) refl
  where
    go : (b : Bool) → inside at w (x + k) ≡ b → byte_at at (put_bytes n at w x v) (x + k) ≡ (if b then byte_of k v else 0)
    go true e = put_bytes_on n k at w x v l m (is_inside at w (x + k) e)
    go false e =
        byte_at-outside at (put_bytes n at w x v) (x + k) (rw length-put_bytes (is_outside at w (x + k) e))

-- a word read where one was written, whatever of it the window has
pub word_at-put_word
    : (at : ℕ) (w : List ℕ) (x v : ℕ)
    → word_at at (put_word at w x v) x ≡ join (stored at w x v 0) (stored at w x v 1) (stored at w x v 2) (stored at w x v 3)
unfolding put_word
word_at-put_word at w x v =
    word_at-bytes at (put_bytes 4 at w x v) x (stored at w x v) (λ k l. put_bytes-at 4 k at w x v l (lit< tt))

-- all four addresses of the word at x are inside
abbrev pub Whole : ℕ → List ℕ → ℕ → Type 0
Whole at w x = (k : ℕ) → k < 4 → place at (x + k) < length w

pub word_at-same : (at : ℕ) (w : List ℕ) (x v : ℕ) → Whole at w x → word_at at (put_word at w x v) x ≡ v % 2 ^ 32
word_at-same at w x v h =
    word_at-put_word at w x v
    ∙ simp (
      inside_yes at w (x + 0) (h 0 (lit< tt)),
      inside_yes at w (x + 1) (h 1 (lit< tt)),
      inside_yes at w (x + 2) (h 2 (lit< tt)),
      inside_yes at w (x + 3) (h 3 (lit< tt)),
    )
    (join-bytes v)

-- a word that shares no address with the one written
pub word_at-apart
    : (at : ℕ) (w : List ℕ) (x v y : ℕ) → 4 ≤ place x y → 4 ≤ place y x → word_at at (put_word at w x v) y ≡ word_at at w y
unfolding put_word
word_at-apart at w x v y h g =
    word_at_kept at (put_bytes 4 at w x v) w y (λ k l. put_bytes-off 4 at w x v (y + k) (place-within x y k h g l))

-- the bytes of a privileged write: byte k is stored where all from x to x + k are inside, else it is as before

-- from x to x + k all are inside
unfoldable pub reaches : (at : ℕ) → List ℕ → (x count : ℕ) → Bool
reaches at w x zero = inside at w x
reaches at w x (suc k) = inside at w x && reaches at w (x + 1) k

reaches-length : (k at : ℕ) (u w : List ℕ) (x : ℕ) → length u ≡ length w → reaches at u x k ≡ reaches at w x k
unfolding reaches
reaches-length zero at u w x e = inside-length at u w x e
reaches-length (suc k) at u w x e = rw (inside-length at u w x e, reaches-length k at u w (x + 1) e)

pub put_upward-off : (n at : ℕ) (w : List ℕ) (x v y : ℕ) → n ≤ place x y → byte_at at (put_upward n at w x v) y ≡ byte_at at w y
unfolding put_upward
put_upward-off zero at w x v y h = refl
put_upward-off (suc n) at w x v y h =
    choose (λ u. byte_at at u y ≡ byte_at at w y) (inside at w x) (put_upward n at (put_byte at w x v) (x + 1) (v / 256)) w
    (put_upward-off n at (put_byte at w x v) (x + 1) (v / 256) y (place-next x y n h)
    ∙ byte_at-other at w x v y (place_self at x y n h))
    refl

-- byte k after it
abbrev pub raised : (at : ℕ) → List ℕ → (x v k : ℕ) → ℕ
raised at w x v k = if reaches at w x k then byte_of k v else byte_at at w (x + k)

pub put_upward-at
    : (n k at : ℕ) (w : List ℕ) (x v : ℕ) → k < n → n < 2 ^ 32 → byte_at at (put_upward n at w x v) (x + k) ≡ raised at w x v k
unfolding put_upward reaches byte_of
put_upward-at zero k at w x v l m = elim l [ ]
put_upward-at (suc n) zero at w x v l m = go (inside at w x) refl
  where
    z : x + 0 ≡ x
    z = omega arith

    go
        : (b : Bool) → inside at w x ≡ b
        → byte_at at (if b then put_upward n at (put_byte at w x v) (x + 1) (v / 256) else w) (x + 0)
        ≡ (if b then v % 256 else byte_at at w (x + 0))
    go true e =
        rw z
        (put_upward-off n at (put_byte at w x v) (x + 1) (v / 256) x (place-back x n m)
        ∙ byte_at-same at w x v (is_inside at w x e))
    go false e = refl
put_upward-at (suc n) (suc k) at w x v l m =
    go (inside at w x) (put_upward-at n k at (put_byte at w x v) (x + 1) (v / 256) (omega arith) (omega arith))
  where
    z : x + suc k ≡ x + 1 + k
    z = omega arith

    rest : List ℕ
    rest = put_upward n at (put_byte at w x v) (x + 1) (v / 256)

    go
        : (b : Bool) → byte_at at rest (x + 1 + k) ≡ raised at (put_byte at w x v) (x + 1) (v / 256) k
        → byte_at at (if b then rest else w) (x + suc k)
        ≡ (if b && reaches at w (x + 1) k then byte_of k (v / 256) else byte_at at w (x + suc k))
    go true e =
        rw z
        (e
        ∙ rw (
          reaches-length k at (put_byte at w x v) w (x + 1) (length-put_byte at w x v),
          byte_at-other at w x v (x + 1 + k) (place-ahead at x k (omega arith)),
        ))
    go false e = refl

pub put_privileged-at
    : (at : ℕ) (w : List ℕ) (x v k : ℕ) → k < 4 → byte_at at (put_privileged at w x v) (x + k) ≡ raised at w x v k
unfolding put_privileged
put_privileged-at at w x v k l = put_upward-at 4 k at w x v l (lit< tt)

pub put_privileged-off
    : (at : ℕ) (w : List ℕ) (x v y : ℕ) → 4 ≤ place x y → byte_at at (put_privileged at w x v) y ≡ byte_at at w y
unfolding put_privileged
put_privileged-off at w x v y h = put_upward-off 4 at w x v y h

-- a word read where a privileged write went, and one that shares no address with it
pub word_at-put_privileged
    : (at : ℕ) (w : List ℕ) (x v : ℕ)
    → word_at at (put_privileged at w x v) x ≡ join (raised at w x v 0) (raised at w x v 1) (raised at w x v 2) (raised at w x v 3)
word_at-put_privileged at w x v =
    word_at-bytes at (put_privileged at w x v) x (raised at w x v) (λ k l. put_privileged-at at w x v k l)

pub word_at-apart_privileged
    : (at : ℕ) (w : List ℕ) (x v y : ℕ) → 4 ≤ place x y → 4 ≤ place y x → word_at at (put_privileged at w x v) y ≡ word_at at w y
word_at-apart_privileged at w x v y h g =
    word_at_kept at (put_privileged at w x v) w y (λ k l. put_privileged-off at w x v (y + k) (place-within x y k h g l))

-- a privileged write is an ordinary one of the n bytes before the first outside, or of all where none is
pub put_upward-cut
    : (m n at : ℕ) (w : List ℕ) (x v : ℕ) → n ≤ m → ((k : ℕ) → k < n → place at (x + k) < length w)
    → (n < m → length w ≤ place at (x + n)) → put_upward m at w x v ≡ put_bytes n at w x v
unfolding put_upward put_bytes
put_upward-cut zero zero at w x v l h o = refl
put_upward-cut zero (suc n) at w x v l h o = absurd (omega arith)
put_upward-cut (suc m) zero at w x v l h o =
    let z : x + 0 ≡ x = omega arith in
    put_upward-outside (suc m) at w x v (rw z at (o (omega arith)))
put_upward-cut (suc m) (suc n) at w x v l h o =
    let z : x + 0 ≡ x = omega arith in
    let e : x + 1 + n ≡ x + suc n = omega arith in
    let i : place at x < length w = rw z at (h 0 (omega arith)) in
    simp (
      inside_yes at w x i,
      put_upward-cut m n at (put_byte at w x v) (x + 1) (v / 256) (omega arith)
          (λ k g. let f : x + 1 + k ≡ x + suc k = omega arith in rw (length-put_byte, f) (h (suc k) (omega arith)))
          (λ g. rw (length-put_byte, e) (o (omega arith))),
    )

pub put_privileged-inside : (at : ℕ) (w : List ℕ) (x v : ℕ) → Whole at w x → put_privileged at w x v ≡ put_word at w x v
unfolding put_privileged put_word
put_privileged-inside at w x v h = put_upward-cut 4 4 at w x v (omega arith) h (λ l. absurd (omega arith))
