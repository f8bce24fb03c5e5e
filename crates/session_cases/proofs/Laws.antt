-- From the branches to the definitions of `Cases`.
use Rattle.std.specs.Prelude.{if◌then◌else◌, Option, Some, None, slice_range}
use Prim.Native.Nat.{ℕ, ◌+◌, ◌/◌, ◌≤◌, ◌<◌}
use mathlib.Core.Path.{◌≡◌, refl, sym, ap, subst, ◌∙◌}
use mathlib.Core.List.{List}
use mathlib.Core.Bool.{Bool, true, false}
use native.Mathlib.Omega.{arith}
use lib.ListN.{length, take, get_or, replicate}
use lib.Seq.{length-take-le}
use lib.Dec.{leb}
use Rattle.std.proofs.Math.Nat.{sub-zero}
use borrow.Author.Tests.{le-leb, lt-leb}
use Rattle.register.specs.Words.{words_in}
use Rattle.case_reader.specs.Pieces.{pieces}
use Rattle.text.specs.Text.{put}
use Rattle.text.specs.Laws.{put-within}
use Rattle.session.specs.Session.{session_text}
use Rattle.session_cases.specs.Cases.{placed, text_of, and_then, case_over, case_at}
use Rattle.session_cases.specs.declared.Case.{Case}

-- the buffer, too short or long enough
module _ (next : ℕ) (session : List ℕ) (n : ℕ) (out : List ℕ) where
  pub short : length session < n → ◌≡◌ {A = Option Case × List ℕ} (None, out) (text_of next session n out)
  unfolding text_of
  short h = rw (lt-leb n (length session) h)

  pub enough
      : {i : ℕ} {s l : List ℕ} → n ≤ length session → s ≡ slice_range session 0 n → ◌≡◌ {A = ℕ × List ℕ} (i, l) (put (session_text s) (0, out))
      → ◌≡◌ {A = Option Case × List ℕ} (Some (record { next = next; length = i }), l) (text_of next session n out)
  unfolding text_of placed
  enough h f e = let g = rw sub-zero at f in rw (le-leb n (length session) h, ← g) (ap (placed next) e)

-- the place, past the file or not
module _ (file : List ℕ) (at : ℕ) (out : List ℕ) where
  pub past : length file / 4 < at + 2 → ◌≡◌ {A = Option Case × List ℕ} (None, out) (case_at file at out)
  unfolding case_at
  past h = rw (lt-leb (at + 2) (length file / 4) h)

  pub there : at + 2 ≤ length file / 4 → case_over (replicate 49156 0) file (words_in file) at out ≡ case_at file at out
  unfolding case_at
  there h = rw (le-leb (at + 2) (length file / 4) h)

-- the pieces, left out or laid
module _ (file : List ℕ) (at : ℕ) (b : List ℕ) {r : Option ℕ} {l : List ℕ} {n k : ℕ} (e : n ≡ k)
    (p : ◌≡◌ {A = Option ℕ × List ℕ} (r, l) (pieces n file at b)) (f : ℕ → List ℕ → Option Case × List ℕ) (out : List ℕ) where
  pub stop : r ≡ None → ◌≡◌ {A = Option Case × List ℕ} (None, out) (and_then (pieces k file at b) f out)
  unfolding and_then
  stop z = rw (← e, ← p, z)

  pub on : {next : ℕ} → r ≡ Some next → f next l ≡ and_then (pieces k file at b) f out
  unfolding and_then
  on z = rw (← e, ← p, z)

-- a case's text ends within the buffer
written : Option Case → ℕ
written (Some c) = c.length
written None = 0

abbrev TextWithin : Option Case × List ℕ → Type 0
TextWithin q = written q.0 ≤ length q.1

text_within : (next : ℕ) (session : List ℕ) (n : ℕ) (out : List ℕ) → TextWithin (text_of next session n out)
unfolding text_of placed written
text_within next session n out = go (leb n (length session))
  where
    go
        : (b : Bool)
        → TextWithin (if◌then◌else◌ {A = Option Case × List ℕ} b (placed next (put (session_text (take n session)) (0, out))) (None, out))
    go true = (put-within (session_text (take n session)) 0 out (omega arith) refl).0
    go false = omega arith

then-within
    : (r : Option ℕ × List ℕ) (f : ℕ → List ℕ → Option Case × List ℕ) (out : List ℕ) → ((e : ℕ) (b : List ℕ) → TextWithin (f e b))
    → TextWithin (and_then r f out)
unfolding and_then written
then-within (Some e, b) f out h = h e b
then-within (None, b) f out h = omega arith

at-within : (file : List ℕ) (at : ℕ) (out : List ℕ) → TextWithin (case_at file at out)
unfolding case_at case_over written
at-within file at out = go (leb (at + 2) (length file / 4))
  where
    go
        : (b : Bool)
        → TextWithin (if◌then◌else◌ {A = Option Case × List ℕ} b (case_over (replicate 49156 0) file (words_in file) at out) (None, out))
    go true = then-within _ _ out (λ next session. text_within next session (get_or (words_in file) at 0) out)
    go false = omega arith

pub within
    : (file : List ℕ) (at : ℕ) (out : List ℕ) {r : Option Case} {l : List ℕ} {c : Case}
    → ◌≡◌ {A = Option Case × List ℕ} (r, l) (case_at file at out) → r ≡ Some c → (c.length ≤ length l) × (c.length ≡ length (take c.length l))
unfolding written
within file at out {l = l} {c = c} e z =
    let h : c.length ≤ length l = subst TextWithin (sym e ∙ ap (λ o. (o, l)) z) (at-within file at out) in
    (h, sym (length-take-le c.length l h))
