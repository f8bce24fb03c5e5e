-- The shape of the lists that the title walks, and that a load keeps it: its module then stands at its list's end.
use Rattle.std.specs.Prelude.{if◌then◌else◌, ℕ, ◌^◌, ◌≤◌, ◌<◌, ◌≡◌, refl, ◌⊎◌, Bool, eqb}
use Rattle.std.proofs.Common.{sym, ◌∙◌, inl, inr, arith, ne_eqb}
use Rattle.std.proofs.Math.Path.{ap, subst}
use mathlib.Core.List.{List, [], ◌∷◌, ◌++◌}
use Rattle.std.proofs.Math.Bool.{true, false}
use Rattle.window.specs.Memory.{◌⊕◌, place, word_at, put_word}
use Rattle.window.specs.Bytes.{Whole, word_at-same, word_at-apart, length-put_word}
use Rattle.window.specs.Access.{Prog, ◌>>=◌, ◌>>◌, run}
use Rattle.layout.specs.Header.{next_cro, previous_cro}
use Rattle.layout.specs.Segments.{field, set_field}
use Rattle.register.specs.Module.{Module, Register}
use Rattle.linker_spec.specs.Lists.{head_field, becomes_head, becomes_tail, register}
use Rattle.linker_spec.specs.Calls.{initialized}

-- "0x088 is next, 0x08C previous."
abbrev pub next : ℕ → List ℕ → ℕ → ℕ
next at w m = word_at at w (m ⊕ next_cro)

abbrev pub previous : ℕ → List ℕ → ℕ → ℕ
previous at w m = word_at at w (m ⊕ previous_cro)

unfoldable pub last_of : ℕ → List ℕ → ℕ
last_of m [] = m
last_of m (n ∷ ns) = last_of n ns

-- m and the modules after it, by their next and previous words
unfoldable pub Chained : (ℕ → ℕ) → (ℕ → ℕ) → ℕ → List ℕ → Type 0
Chained next previous m [] = next m ≡ 0
Chained next previous m (n ∷ ns) = (next m ≡ n) × ((previous n ≡ m) × Chained next previous n ns)

-- "The CRS's next heads the auto-linked list, its previous the other; a head's previous is the tail."
unfoldable pub Listed : ℕ → List ℕ → ℕ → Bool → List ℕ → Type 0
Listed at w crs auto [] = word_at at w (crs ⊕ head_field auto) ≡ 0
Listed at w crs auto (m ∷ ms) =
    (word_at at w (crs ⊕ head_field auto) ≡ m) × ((previous at w m ≡ last_of m ms) × Chained (next at w) (previous at w) m ms)

-- headers whose list words do not touch each other, and lie in the window; 0 is no module
abbrev pub Off : ℕ → ℕ → Type 0
Off x y = (4 ≤ place x y) × (4 ≤ place y x)

abbrev pub FieldsApart : ℕ → ℕ → Type 0
FieldsApart a b = (s t : Bool) → Off (a ⊕ head_field s) (b ⊕ head_field t)

unfoldable pub AllFieldsApart : ℕ → List ℕ → Type 0
AllFieldsApart a [] = Unit {0}
AllFieldsApart a (b ∷ bs) = FieldsApart a b × AllFieldsApart a bs

abbrev pub Header : ℕ → List ℕ → ℕ → Type 0
Header at w a = (0 < a) × ((a < 2 ^ 32) × (Whole at w (a ⊕ next_cro) × Whole at w (a ⊕ previous_cro)))

unfoldable pub Headers : ℕ → List ℕ → List ℕ → Type 0
Headers at w [] = Unit {0}
Headers at w (a ∷ bs) = Header at w a × (AllFieldsApart a bs × Headers at w bs)

-- the two words of one header
pub own : (a : ℕ) → Off (a ⊕ next_cro) (a ⊕ previous_cro)
unfolding place
own a = (omega arith, omega arith)

pub turned : (a b : ℕ) → FieldsApart a b → FieldsApart b a
turned a b h s t = let k = h t s in (k.1, k.0)

pub off-turned : (x y : ℕ) → Off x y → Off y x
off-turned x y h = (h.1, h.0)

-- a word written, seen from another header and from its own
module _ (at : ℕ) (w : List ℕ) (x v y : ℕ) where
  pub elsewhere : Off x y → word_at at (put_word at w x v) y ≡ word_at at w y
  elsewhere o = word_at-apart at w x v y o.0 o.1

  still_whole : Whole at w y → Whole at (put_word at w x v) y
  still_whole h k l = rw (length-put_word at w x v) (h k l)

here : (at : ℕ) (w : List ℕ) (x v : ℕ) → Whole at w x → v < 2 ^ 32 → word_at at (put_word at w x v) x ≡ v
here at w x v h l = word_at-same at w x v h ∙ omega arith

-- one module more at the end, where the other links are as before
unfoldable InnerLinks : (ℕ → ℕ) → (ℕ → ℕ) → (ℕ → ℕ) → (ℕ → ℕ) → ℕ → List ℕ → Type 0
InnerLinks N P N' P' m [] = Unit {0}
InnerLinks N P N' P' m (n ∷ ns) = (N' m ≡ N m) × ((P' n ≡ P n) × InnerLinks N P N' P' n ns)

module _ (N P N' P' : ℕ → ℕ) (base : ℕ) where
  Chain-more
      : (m : ℕ) (ms : List ℕ) → Chained N P m ms → InnerLinks N P N' P' m ms → N' (last_of m ms) ≡ base → P' base ≡ last_of m ms → N' base ≡ 0
      → Chained N' P' m (ms ++ (base ∷ []))
  unfolding Chained InnerLinks last_of
  Chain-more m [] c i e f g = (e, (f, g))
  Chain-more m (n ∷ ns) c i e f g = (i.0 ∙ c.0, (i.1.0 ∙ c.1.0, Chain-more n ns c.1.1 i.1.1 e f g))

last_more : (m : ℕ) (ms : List ℕ) (base : ℕ) → last_of m (ms ++ (base ∷ [])) ≡ base
unfolding last_of
last_more m [] base = refl
last_more m (n ∷ ns) base = last_more n ns base

-- the last of several is apart from what all are apart from
pub last_apart : (a n : ℕ) (ns : List ℕ) → AllFieldsApart a (n ∷ ns) → FieldsApart a (last_of n ns)
unfolding AllFieldsApart last_of
last_apart a n [] h = h.0
last_apart a n (k ∷ ns) h = last_apart a k ns h.1

abbrev Near : ℕ → ℕ → Type 0
Near a b = (a ≡ b) ⊎ FieldsApart a b

last_near : (n : ℕ) (ns : List ℕ) → AllFieldsApart n ns → Near n (last_of n ns)
unfolding last_of
last_near n [] h = inl refl
last_near n (k ∷ ns) h = inr (last_apart n k ns h)

-- the previous word of one and the next word of another, or of itself
near_off : (a b : ℕ) → Near a b → Off (a ⊕ next_cro) (b ⊕ previous_cro)
near_off a b (inl e) = rw (← e) (own a)
near_off a b (inr h) = h true false

near_turned : (a b : ℕ) → Near a b → Near b a
near_turned a b (inl e) = inl (sym e)
near_turned a b (inr h) = inr (turned a b h)

-- what `register` does once the head is read
abbrev at_end : (crs base : ℕ) → Bool → (head : ℕ) → Prog (Unit {0})
at_end crs base auto head = (if eqb head 0 then becomes_head crs (head_field auto) base else becomes_tail head base) >> set_field base next_cro 0

module _ (at : ℕ) (w : List ℕ) (crs base : ℕ) (auto : Bool) where
  abbrev pub alone : List ℕ
  alone = put_word at (put_word at (put_word at w (crs ⊕ head_field auto) base) (base ⊕ previous_cro) base) (base ⊕ next_cro) 0

  pub first-listed : word_at at w (crs ⊕ head_field auto) ≡ 0 → (run at (register crs base auto) w).1 ≡ alone
  unfolding register becomes_head becomes_tail field set_field run ◌>>=◌
  first-listed e = ap (λ h. (run at (at_end crs base auto h) w).1) e

  abbrev pub after_tail : ℕ → ℕ → List ℕ
  after_tail m t =
      put_word at (put_word at (put_word at (put_word at w (t ⊕ next_cro) base) (base ⊕ previous_cro) t) (m ⊕ previous_cro) base) (base ⊕ next_cro) 0

  pub later_listed
      : (m t : ℕ) → 0 < m → word_at at w (crs ⊕ head_field auto) ≡ m → previous at w m ≡ t
      → (run at (register crs base auto) w).1 ≡ after_tail m t
  unfolding register becomes_head becomes_tail field set_field run ◌>>=◌
  later_listed m t l e f =
      ap (λ h. (run at (at_end crs base auto h) w).1) e ∙ rw (ne_eqb m 0 (λ z. omega arith), f)

  -- the words after that: others' as they were
  module _ (m t : ℕ) where
    abbrev u₁ : List ℕ
    u₁ = put_word at w (t ⊕ next_cro) base

    abbrev u₂ : List ℕ
    u₂ = put_word at u₁ (base ⊕ previous_cro) t

    abbrev u₃ : List ℕ
    u₃ = put_word at u₂ (m ⊕ previous_cro) base

    pub unwritten
        : (y : ℕ) → Off (t ⊕ next_cro) y → Off (base ⊕ previous_cro) y → Off (m ⊕ previous_cro) y → Off (base ⊕ next_cro) y
        → word_at at (after_tail m t) y ≡ word_at at w y
    unwritten y o₁ o₂ o₃ o₄ =
        elsewhere at u₃ (base ⊕ next_cro) 0 y o₄
        ∙ elsewhere at u₂ (m ⊕ previous_cro) base y o₃
        ∙ elsewhere at u₁ (base ⊕ previous_cro) t y o₂
        ∙ elsewhere at w (t ⊕ next_cro) base y o₁

    inner
        : (n : ℕ) (ns : List ℕ) → last_of n ns ≡ t → Near n m → AllFieldsApart m ns → AllFieldsApart base (n ∷ ns) → Headers at w (n ∷ ns)
        → InnerLinks (next at w) (previous at w) (next at (after_tail m t)) (previous at (after_tail m t)) n ns
    unfolding InnerLinks last_of AllFieldsApart Headers
    inner n [] e near am ab hs = tt
    inner n (k ∷ ns) e near am ab hs =
        let nt : FieldsApart n t = subst (FieldsApart n) e (last_apart n k ns hs.1.0) in
        let kt : Near k t = subst (Near k) e (last_near k ns hs.1.1.1.0) in (
          unwritten (n ⊕ next_cro) (turned n t nt true true) (ab.0 false true) (off-turned (n ⊕ next_cro) (m ⊕ previous_cro) (near_off n m near))
              (ab.0 true true),
          (
            unwritten (k ⊕ previous_cro) (near_off t k (near_turned k t kt)) (ab.1.0 false false) (am.0 false false) (ab.1.0 true false),
            inner k ns e (inr (turned m k am.0)) am.1 ab.1 hs.1.1,
          ),
        )

headers_last : (at : ℕ) (w : List ℕ) (m : ℕ) (ms : List ℕ) → Headers at w (m ∷ ms) → Header at w (last_of m ms)
unfolding Headers last_of
headers_last at w m [] h = h.0
headers_last at w m (n ∷ ns) h = headers_last at w n ns h.1.1

head-whole : (at : ℕ) (w : List ℕ) (a : ℕ) (auto : Bool) → Header at w a → Whole at w (a ⊕ head_field auto)
head-whole at w a true h = h.1.1.0
head-whole at w a false h = h.1.1.1

-- a load's module stands last in its list, and the list has its shape
pub register-listed
    : (at : ℕ) (w : List ℕ) (crs base : ℕ) (auto : Bool) (ms : List ℕ) → Headers at w (crs ∷ base ∷ ms) → Listed at w crs auto ms
    → Listed at (run at (register crs base auto) w).1 crs auto (ms ++ (base ∷ []))
unfolding Listed Headers AllFieldsApart last_of Chained
register-listed at w crs base auto [] h l =
    let x = crs ⊕ head_field auto in
    let w₁ = put_word at w x base in
    let w₂ = put_word at w₁ (base ⊕ previous_cro) base in
    let b = h.1.1.0 in
    let cb : FieldsApart base crs = turned crs base h.1.0.0 in
    rw (first-listed at w crs base auto l) (
      elsewhere at w₂ (base ⊕ next_cro) 0 x (cb true auto)
          ∙ elsewhere at w₁ (base ⊕ previous_cro) base x (cb false auto)
          ∙ here at w x base (head-whole at w crs auto h.0) b.1.0,
      (
        elsewhere at w₂ (base ⊕ next_cro) 0 (base ⊕ previous_cro) (own base)
            ∙ here at w₁ (base ⊕ previous_cro) base (still_whole at w x base (base ⊕ previous_cro) b.1.1.1) b.1.0,
        here at w₂ (base ⊕ next_cro) 0
            (still_whole at w₁ (base ⊕ previous_cro) base (base ⊕ next_cro) (still_whole at w x base (base ⊕ next_cro) b.1.1.0))
            (omega arith),
      ),
    )
register-listed at w crs base auto (m ∷ ms) h l =
    let t = last_of m ms in
    let x = crs ⊕ head_field auto in
    let v₁ = put_word at w (t ⊕ next_cro) base in
    let v₂ = put_word at v₁ (base ⊕ previous_cro) t in
    let v₃ = put_word at v₂ (m ⊕ previous_cro) base in
    let b = h.1.1.0 in
    let hm = h.1.1.1.1 in
    let ht = headers_last at w m ms hm in
    let bc : FieldsApart base crs = turned crs base h.1.0.0 in
    let mc : FieldsApart m crs = turned crs m h.1.0.1.0 in
    let tc : FieldsApart t crs = turned crs t (last_apart crs m ms h.1.0.1) in
    let bm : FieldsApart base m = h.1.1.1.0.0 in
    let bt : FieldsApart base t = last_apart base m ms h.1.1.1.0 in
    let tm : Near t m = near_turned m t (last_near m ms hm.1.0) in
    rw (later_listed at w crs base auto m t hm.0.0 l.0 l.1.0, last_more m ms base) (
      unwritten at w crs base auto m t x (tc true auto) (bc false auto) (mc false auto) (bc true auto) ∙ l.0,
      (
        elsewhere at v₃ (base ⊕ next_cro) 0 (m ⊕ previous_cro) (bm true false)
            ∙ here at v₂ (m ⊕ previous_cro) base
            (still_whole at v₁ (base ⊕ previous_cro) t (m ⊕ previous_cro) (still_whole at w (t ⊕ next_cro) base (m ⊕ previous_cro) hm.0.1.1.1))
            b.1.0,
        Chain-more (next at w) (previous at w) (next at (after_tail at w crs base auto m t)) (previous at (after_tail at w crs base auto m t)) base m ms
            l.1.1
            (inner at w crs base auto m t m ms refl (inl refl) hm.1.0 h.1.1.1.0 hm)
            (elsewhere at v₃ (base ⊕ next_cro) 0 (t ⊕ next_cro) (bt true true)
            ∙ elsewhere at v₂ (m ⊕ previous_cro) base (t ⊕ next_cro) (off-turned (t ⊕ next_cro) (m ⊕ previous_cro) (near_off t m tm))
            ∙ elsewhere at v₁ (base ⊕ previous_cro) t (t ⊕ next_cro) (bt false true)
            ∙ here at w (t ⊕ next_cro) base ht.1.1.0 b.1.0)
            (elsewhere at v₃ (base ⊕ next_cro) 0 (base ⊕ previous_cro) (own base)
            ∙ elsewhere at v₂ (m ⊕ previous_cro) base (base ⊕ previous_cro) (turned base m bm false false)
            ∙ here at v₁ (base ⊕ previous_cro) t (still_whole at w (t ⊕ next_cro) base (base ⊕ previous_cro) b.1.1.1) ht.1.0)
            (here at v₃ (base ⊕ next_cro) 0
            (still_whole at v₂ (m ⊕ previous_cro) base (base ⊕ next_cro)
            (still_whole at v₁ (base ⊕ previous_cro) t (base ⊕ next_cro) (still_whole at w (t ⊕ next_cro) base (base ⊕ next_cro) b.1.1.0)))
            (omega arith)),
      ),
    )

-- "no module hangs off it yet": after an `initialize` both lists are empty
pub initialized-listed
    : (at : ℕ) (w : List ℕ) (r : Register) (crs : ℕ) (m : Module) (auto : Bool) → Header at w crs
    → Listed at (run at (initialized r crs m) w).1 crs auto []
unfolding initialized set_field Listed run ◌>>=◌
initialized-listed at w r crs m true h =
    elsewhere at (put_word at w (crs ⊕ next_cro) 0) (crs ⊕ previous_cro) 0 (crs ⊕ next_cro) (off-turned (crs ⊕ next_cro) (crs ⊕ previous_cro) (own crs))
    ∙ here at w (crs ⊕ next_cro) 0 h.1.1.0 (omega arith)
initialized-listed at w r crs m false h =
    here at (put_word at w (crs ⊕ next_cro) 0) (crs ⊕ previous_cro) 0 (still_whole at w (crs ⊕ next_cro) 0 (crs ⊕ previous_cro) h.1.1.1) (omega arith)
