-- Entries of a table that lie wholly outside the window. Once a touch is kept their reads give 0 and their writes leave all as it is,
-- so a loop may pass over them.
use Rattle.std.specs.Prelude.{if◌then◌else◌, ◌≡◌, ℕ, zero, suc, ◌+◌, ◌-◌, ◌*◌, ◌/◌, ◌%◌, ◌^◌, ◌<◌, ◌≤◌, Bool, true, false, ◌||◌, ltb, List, [], length, ◌==◌, nat_lt}
use Rattle.std.proofs.Math.Path.{refl}
use Rattle.std.proofs.Common.{sym, ap, ◌∙◌, true≢false, mul-le-mul_right, div-mul-le_self, suc-mul, add-mul, lit<}
use native.Mathlib.Omega.{arith}
use borrow.Author.Tests.{ltb-true, ltb-false}
use Rattle.window.specs.Memory.{place, word_at, put_word, put_bytes}
use Rattle.window.specs.Bytes.{place-mod, place-add, place_on, byte_at-outside, put_byte-outside, put_bytes-outside}
use Rattle.window.specs.Access.{Prog, get8, get32, put8, put32}
use Rattle.window.specs.Loop.{loop}
use Rattle.window.specs.Trace.{State, said, rd8, rd32, wr8, store_t, run_t, wr32-put}
use Rattle.window.specs.Silent.{saw-said}
use Rattle.window.specs.TraceRuns.{given, turn_made, step_made}
use Rattle.window.specs.Name.{name_at, name_at_0}

-- how many entries of `size` bytes fit between the one at `entry` and the window's first byte, which comes again at 2 ^ 32
abbrev pub fitting : (at entry size : ℕ) → ℕ
fitting at entry size = (2 ^ 32 - place at entry) / size

-- how far a loop may go at once, of `left` entries that are left: past those that lie wholly outside, at least past one
unfoldable pub stride_of : (at n entry size left : ℕ) → ℕ
stride_of at n entry size left =
    if nat_lt (place at entry) n || (size == 0 || nat_lt (fitting at entry size) 1) then 1
    else (if ltb (fitting at entry size) left then fitting at entry size else left)

-- the same once a touch is kept, and before that 1
unfoldable pub silent_stride : (at n : ℕ) → List ℕ → (entry size left : ℕ) → ℕ
silent_stride at n t entry size left = if said t then stride_of at n entry size left else 1

-- none of the `count` bytes from x on is one of the n from `at` on
abbrev pub AllOutside : (at n x count : ℕ) → Type 0
AllOutside at n x count = (k : ℕ) → k < count → n ≤ place at (x + k)

-- what a stride passes over

neither : (b c : Bool) → (b || c) ≡ false → (b ≡ false) × (c ≡ false)
neither true c e = absurd (true≢false e)
neither false c e = (refl, e)

module _ (at n entry size left : ℕ) where
  stride_cases
      : (P : ℕ → Type 0) → P 1
      → (n ≤ place at entry → (r : ℕ) → r ≤ fitting at entry size → r ≤ left → (0 < left → 0 < r) → P r)
      → P (stride_of at n entry size left)
  unfolding stride_of
  stride_cases P one many = tests _ refl _ refl
    where
      tests
          : (b : Bool) → (nat_lt (place at entry) n || (size == 0 || nat_lt (fitting at entry size) 1)) ≡ b
          → (c : Bool) → nat_lt (fitting at entry size) left ≡ c
          → P (if b then 1 else (if c then fitting at entry size else left))
      tests true e c d = one
      tests false e true d =
          let no = neither (nat_lt (place at entry) n) _ e in
          let some = neither (size == 0) _ no.1 in
          many (ltb-false (place at entry) n no.0) (fitting at entry size) (omega arith) (omega (arith, ltb-true (fitting at entry size) left d))
          (λ l. omega (arith, ltb-false (fitting at entry size) 1 some.1))
      tests false e false d =
          let no = neither (nat_lt (place at entry) n) _ e in
          many (ltb-false (place at entry) n no.0) left (omega (arith, ltb-false (fitting at entry size) left d)) (omega arith) (λ l. l)

  pub stride_some : 0 < left → 0 < stride_of at n entry size left
  stride_some l = stride_cases (λ r. 0 < r) (omega arith) (λ o r f g h. h l)

  pub stride_within : 0 < left → stride_of at n entry size left ≤ left
  stride_within l = stride_cases (λ r. r ≤ left) (omega arith) (λ o r f g h. g)

  -- where it passes over more than one, all of these lie wholly outside
  pub stride_outside
      : (j : ℕ) → 1 < stride_of at n entry size left → j < stride_of at n entry size left → AllOutside at n (entry + j * size) size
  stride_outside j =
      stride_cases (λ r. 1 < r → j < r → AllOutside at n (entry + j * size) size) (λ c. absurd (omega arith))
      (λ o r f g h c l k s.
      let m : r * size ≤ fitting at entry size * size = mul-le-mul_right size f in
      let p : fitting at entry size * size ≤ 2 ^ 32 - place at entry = div-mul-le_self (2 ^ 32 - place at entry) size in
      let q : suc j * size ≤ r * size = mul-le-mul_right size l in
      let t : suc j * size ≡ j * size + size = suc-mul j size in
      let v : entry + j * size + k ≡ entry + (j * size + k) = omega arith in
      rw (v, place_on at entry (j * size + k) (omega (arith, m, p, q, t))) (omega (arith, o)))

-- the same of entry j of a table, the stride being from entry i on
pub passed-outside
    : (at n table size i left j : ℕ) {entry : ℕ} → entry ≡ (table + i * size) % 2 ^ 32 → 1 < stride_of at n entry size left → i ≤ j
    → j < i + stride_of at n entry size left → AllOutside at n ((table + j * size) % 2 ^ 32) size
passed-outside at n table size i left j {entry} e many h l b m =
    let o = stride_outside at n entry size left (j - i) many (omega arith) b m in
    let p : i * size + (j - i) * size ≡ j * size = sym (add-mul i (j - i) size) ∙ ap (λ x. x * size) (omega arith) in
    let q : (entry + (j - i) * size + b) % 2 ^ 32 ≡ (table + j * size + b) % 2 ^ 32 = omega (arith, e, p) in
    rw (place-add at (table + j * size) b, ← place-mod at (table + j * size + b), ← q, place-mod at (entry + (j - i) * size + b)) o

-- a stride goes on, and not past the end

pub stride_goes : (at n entry size left : ℕ) {k : ℕ} → k ≡ stride_of at n entry size left → 0 < left → (0 < k) × (k ≤ left)
stride_goes at n entry size left e l = rw e (stride_some at n entry size left l, stride_within at n entry size left l)

pub silent_goes
    : (at n : ℕ) (t : List ℕ) (entry size left : ℕ) {k : ℕ} → k ≡ silent_stride at n t entry size left → 0 < left → (0 < k) × (k ≤ left)
unfolding silent_stride
silent_goes at n t entry size left {k} e l = tested (said t) e
  where
    tested : (b : Bool) → k ≡ (if b then stride_of at n entry size left else 1) → (0 < k) × (k ≤ left)
    tested true e = stride_goes at n entry size left e l
    tested false e = (omega arith, omega arith)

-- accesses of an entry that lies wholly outside, once a touch is kept

pub outside-part : (at n x k count size : ℕ) → k + count ≤ size → AllOutside at n x size → AllOutside at n ((x + k) % 2 ^ 32) count
outside-part at n x k count size l out j m =
    let e : x + k + j ≡ x + (k + j) = omega arith in
    rw (place-add at (x + k) j, e) (out (k + j) (omega arith))

word-zero : (at : ℕ) (w : List ℕ) (x : ℕ) → AllOutside at (length w) x 4 → word_at at w x ≡ 0
unfolding word_at
word-zero at w x out =
    let z : x + 0 ≡ x = omega arith in
    rw (
      byte_at-outside at w x (rw z at (out 0 (lit< tt))),
      byte_at-outside at w (x + 1) (out 1 (lit< tt)),
      byte_at-outside at w (x + 2) (out 2 (lit< tt)),
      byte_at-outside at w (x + 3) (out 3 (lit< tt)),
    )

bytes_kept : (n at : ℕ) (w : List ℕ) (x v : ℕ) → AllOutside at (length w) x n → put_bytes n at w x v ≡ w
unfolding put_bytes
bytes_kept zero at w x v out = refl
bytes_kept (suc n) at w x v out =
    let z : x + 0 ≡ x = omega arith in
    put_bytes-outside n at w x v (rw z at (out 0 (omega arith)))
    ∙ bytes_kept n at w (x + 1) (v / 256) (λ k l. let e : x + 1 + k ≡ x + suc k = omega arith in rw e (out (suc k) (omega arith)))

word_kept : (at : ℕ) (w : List ℕ) (x v : ℕ) → AllOutside at (length w) x 4 → put_word at w x v ≡ w
unfolding put_word
word_kept at w x v out = bytes_kept 4 at w x v out

module _ (at : ℕ) (w t : List ℕ) (kept : said t ≡ true) where
  module _ (x : ℕ) where
    pub byte_read : AllOutside at (length w) x 1 → (0, (w, t)) ≡ run_t at (get8 x) (w, t)
    unfolding run_t rd8
    byte_read out =
        let z : x + 0 ≡ x = omega arith in
        rw (byte_at-outside at w x (rw z at (out 0 (lit< tt))), saw-said at (length w) x 1 t kept)

    pub word_read : AllOutside at (length w) x 4 → (0, (w, t)) ≡ run_t at (get32 x) (w, t)
    unfolding run_t rd32
    word_read out = rw (word-zero at w x out, saw-said at (length w) x 4 t kept)

    pub byte_dropped : (v : ℕ) → AllOutside at (length w) x 1 → (w, t) ≡ (run_t at (put8 x v) (w, t)).1
    unfolding run_t wr8 store_t
    byte_dropped v out =
        let z : x + 0 ≡ x = omega arith in
        rw (put_byte-outside at w x v (rw z at (out 0 (lit< tt))), saw-said at (length w) x 1 t kept)

    pub word_dropped : (v : ℕ) → AllOutside at (length w) x 4 → (w, t) ≡ (run_t at (put32 x v) (w, t)).1
    unfolding run_t
    word_dropped v out = rw (wr32-put at w t x v, word_kept at w x v out, saw-said at (length w) x 4 t kept)

-- the same of the parts of such an entry

outside-first : (at n x count size : ℕ) → count ≤ size → AllOutside at n x size → AllOutside at n x count
outside-first at n x count size l out j m = out j (omega arith)

module _ (at : ℕ) (w : List ℕ) (x size : ℕ) (out : AllOutside at (length w) x size) where
  pub first-zero : 4 ≤ size → word_at at w x ≡ 0
  first-zero l = word-zero at w x (outside-first at (length w) x 4 size l out)

  pub part-zero : (k : ℕ) → k + 4 ≤ size → word_at at w ((x + k) % 2 ^ 32) ≡ 0
  part-zero k l = word-zero at w ((x + k) % 2 ^ 32) (outside-part at (length w) x k 4 size l out)

module _ (at : ℕ) (w t : List ℕ) (kept : said t ≡ true) (x size : ℕ) (out : AllOutside at (length w) x size) where
  pub first_read : 4 ≤ size → (0, (w, t)) ≡ run_t at (get32 x) (w, t)
  first_read l = word_read at w t kept x (outside-first at (length w) x 4 size l out)

  pub first_dropped : (v : ℕ) → 4 ≤ size → (w, t) ≡ (run_t at (put32 x v) (w, t)).1
  first_dropped v l = word_dropped at w t kept x v (outside-first at (length w) x 4 size l out)

  module _ (k : ℕ) where
    pub part_read : k + 4 ≤ size → (0, (w, t)) ≡ run_t at (get32 ((x + k) % 2 ^ 32)) (w, t)
    part_read l = word_read at w t kept ((x + k) % 2 ^ 32) (outside-part at (length w) x k 4 size l out)

    pub part_dropped : (v : ℕ) → k + 4 ≤ size → (w, t) ≡ (run_t at (put32 ((x + k) % 2 ^ 32) v) (w, t)).1
    part_dropped v l = word_dropped at w t kept ((x + k) % 2 ^ 32) v (outside-part at (length w) x k 4 size l out)

    pub part_byte_read : k + 1 ≤ size → (0, (w, t)) ≡ run_t at (get8 ((x + k) % 2 ^ 32)) (w, t)
    part_byte_read l = byte_read at w t kept ((x + k) % 2 ^ 32) (outside-part at (length w) x k 1 size l out)

    pub part_byte_dropped : (v : ℕ) → k + 1 ≤ size → (w, t) ≡ (run_t at (put8 ((x + k) % 2 ^ 32) v) (w, t)).1
    part_byte_dropped v l = byte_dropped at w t kept ((x + k) % 2 ^ 32) v (outside-part at (length w) x k 1 size l out)

-- the name of such an entry
pub name-outside : (at : ℕ) (s : State) → ([], s) ≡ run_t at (name_at 0) s
name-outside at s = given at [] s ∙ ap (λ m. run_t at m s) (sym name_at_0)

-- A loop whose turns at entries wholly outside hand on what they got and leave all as it is passes over a stride.
module _ {A : Type 0} (at : ℕ) (body : ℕ → A → Prog A) (table size : ℕ) where
  abbrev pub IdleOutside : A → State → Type 0
  IdleOutside a s = (i : ℕ) → AllOutside at (length s.0) ((table + i * size) % 2 ^ 32) size → (a, s) ≡ run_t at (body i a) s

  turns-passed
      : (a : A) (s : State) (m i count : ℕ) {r : A × State} → run_t at (loop body i (count - i) a) s ≡ r → i + m ≤ count
      → ((j : ℕ) → i ≤ j → j < i + m → (a, s) ≡ run_t at (body j a) s) → run_t at (loop body (i + m) (count - (i + m)) a) s ≡ r
  turns-passed a s zero i count rest l idle = let z : i + 0 ≡ i = omega arith in rw z rest
  turns-passed a s (suc m) i count rest l idle =
      let z : i + suc m ≡ i + 1 + m = omega arith in
      rw z
      (turns-passed a s m (i + 1) count (turn_made at body i count a s rest (omega arith) (idle i (omega arith) (omega arith))) (omega arith)
      (λ j h g. idle j (omega arith) (omega arith)))

  pub stride_made
      : (a : A) (i count : ℕ) (w t : List ℕ) {r : A × State} {entry k : ℕ} → run_t at (loop body (i + 1) (count - (i + 1)) a) (w, t) ≡ r
      → i < count → entry ≡ (table + i * size) % 2 ^ 32 → k ≡ silent_stride at (length w) t entry size (count - i)
      → (said t ≡ true → IdleOutside a (w, t)) → run_t at (loop body (i + k) (count - (i + k)) a) (w, t) ≡ r
  unfolding silent_stride
  stride_made a i count w t {r} {entry} {k} rest l e ek idle = rw ek (tested (said t) refl)
    where
      past : said t ≡ true → (k : ℕ) → k ≡ stride_of at (length w) entry size (count - i) → run_t at (loop body (i + k) (count - (i + k)) a) (w, t) ≡ r
      past y k d =
          let goes = stride_goes at (length w) entry size (count - i) d (omega arith) in
          let z : i + 1 + (k - 1) ≡ i + k = omega (arith, goes) in
          rw z at
          (turns-passed a (w, t) (k - 1) (i + 1) count rest (omega (arith, goes))
          (λ j h g. idle y j (passed-outside at (length w) table size i (count - i) j e (omega (arith, d)) (omega arith) (omega (arith, d)))))

      tested
          : (b : Bool) → said t ≡ b
          → run_t at (loop body (i + (if b then stride_of at (length w) entry size (count - i) else 1)) (count - (i + (if b then stride_of at (length w) entry size (count - i) else 1))) a) (w, t)
          ≡ r
      tested true y = past y (stride_of at (length w) entry size (count - i)) refl
      tested false y = rest

-- turns that hand nothing on, each at its entry
module _ (at : ℕ) (f : ℕ → Prog (Unit {0})) (size : ℕ) where
  abbrev pub Idle : Type 0
  Idle = (w t : List ℕ) → said t ≡ true → (x : ℕ) → AllOutside at (length w) x size → (w, t) ≡ (run_t at (f x) (w, t)).1

  pub strides_made
      : (table i count : ℕ) (s : State) {r : Unit {0} × State} {entry k : ℕ} {w t : List ℕ}
      → run_t at (loop (λ j _. f ((table + j * size) % 2 ^ 32)) i (count - i) tt) s ≡ r → i < count → entry ≡ (table + i * size) % 2 ^ 32
      → (w, t) ≡ (run_t at (f entry) s).1 → k ≡ silent_stride at (length w) t entry size (count - i) → Idle
      → run_t at (loop (λ j _. f ((table + j * size) % 2 ^ 32)) (i + k) (count - (i + k)) tt) (w, t) ≡ r
  strides_made table i count s {w = w} {t = t} rest l e h k idle =
      stride_made at (λ j _. f ((table + j * size) % 2 ^ 32)) table size tt i count w t
      (step_made at f (λ j. (table + j * size) % 2 ^ 32) i count s rest l e h) l e k
      (λ y j out. ap (λ u. (tt, u)) (idle w t y ((table + j * size) % 2 ^ 32) out))
