use Rattle.std.proofs.Common.{◌≡◌, ℕ, ◌+◌, ◌-◌, ◌≤◌, List, ◌++◌, rules, arith, length, take, slice_range, sym, ap, ◌∙◌, subst, le_refl, drop_at, length-take-le, Option}
use Rattle.std.proofs.lemmas.Slice.{take-put_mid_below}
use Rattle.std.specs.Io.KnownBytes.{Consumes}
use Rattle.std.specs.declared.option.Option.{Option}
use Rattle.std.proofs.KnownBytes.{Consumes-nil, Consumes-trans}
use borrow.Rule.Slice.PartMut.{put_mid, post_of}
use lib.Seq.{take-add, take-append-le}
use Rattle.reading.proofs.read_full.Goals as goal

-- a list's first b bytes are its first a and those from there to b
take_split : (a b : ℕ) (old new : List ℕ) → a ≤ b → take a new ≡ take a old → take a old ++ slice_range new a b ≡ take b new
take_split a b old new h front =
    let same : a + (b - a) ≡ b = omega arith in
    ap (λ l. l ++ slice_range new a b) (sym front) ∙ sym (take-add a (b - a) new) ∙ ap (λ n. take n new) same

-- what was put from place a on
slice_range-put_mid : (a k n : ℕ) (xs ys : List ℕ) → a ≤ length xs → n ≤ length ys → slice_range (put_mid a k xs ys) a (a + n) ≡ take n ys
slice_range-put_mid a k n xs ys within fits =
    let same : (a + n) - a ≡ n = omega arith in
    let after = post_of a k xs in
    ap (take ((a + n) - a)) (drop_at (take a xs) (ys ++ after) a (length-take-le a xs within)) ∙ ap (λ m. take m (ys ++ after)) same
    ∙ take-append-le n ys after fits

-- what was read into the part from place a on stands after what had been read before
read_on
    : (r s t : Option (List ℕ)) (a n : ℕ) (xs ys : List ℕ) → a ≤ length xs → n ≤ length ys → Consumes r s (take a xs) → Consumes s t (take n ys)
    → Consumes r t (take (a + n) (put_mid a (length xs - a) xs ys))
read_on r s t a n xs ys within fits before now =
    let room = length xs - a in
    let part = slice_range-put_mid a room n xs ys within fits in
    let joined = take_split a (a + n) xs (put_mid a room xs ys) (omega arith) (take-put_mid_below _ _ _ _ _ (le_refl _) within) in
    subst (Consumes r t) (ap (λ l. take a xs ++ l) (sym part) ∙ joined) (Consumes-trans r s t _ _ before now)

-- and where nothing was read, it still is what had been read before
read_none
    : (r s t : Option (List ℕ)) (a n : ℕ) (xs ys : List ℕ) → a ≤ length xs → n ≤ length ys → n ≡ 0 → Consumes r s (take a xs) → Consumes s t (take n ys)
    → Consumes r t (take a (put_mid a (length xs - a) xs ys))
read_none r s t a n xs ys within fits none before now =
    let e : a + n ≡ a = omega (arith, none) in
    subst (λ k. Consumes r t (take k (put_mid a (length xs - a) xs ys))) e (read_on r s t a n xs ys within fits before now)

pub loop-done-init : goal.loop-done-init
loop-done-init g c = (search rules, search rules, Consumes-nil _)

pub returns-then-n-eq0-clause-read : goal.returns-then-n-eq0-clause-read
returns-then-n-eq0-clause-read g c =
    read_none _ _ _ c.loop-done.done c.in_ok-n.n c.loop-done.buffer c.read.new.buf c.loop-done.invariant.1 c.in_ok-n.ensures.bound.0 c.if-n-eq0.true
    c.loop-done.invariant.2 c.in_ok-n.ensures.bytes.0

pub loop-done-preserved : goal.loop-done-preserved
loop-done-preserved g c = (
  search rules,
  search rules,
  read_on _ _ _ c.loop-done.done c.in_ok-n.n c.loop-done.buffer c.read.new.buf c.loop-done.invariant.1 c.in_ok-n.ensures.bound.0
      c.loop-done.invariant.2 c.in_ok-n.ensures.bytes.0,
)

pub returns-clause-within : goal.returns-clause-within
returns-clause-within g c = (c.loop-done.invariant.1, sym (length-take-le _ _ c.loop-done.invariant.1))

pub returns-clause-read : goal.returns-clause-read
returns-clause-read g c = c.loop-done.invariant.2
