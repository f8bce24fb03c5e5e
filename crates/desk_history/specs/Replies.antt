-- A reply changes only the words that it puts, at most three, and nothing of the register.
use Rattle.std.specs.Prelude.{if◌then◌else◌, ℕ, zero, suc, ◌+◌, ◌*◌, ◌%◌, ◌^◌, ◌≤◌, ◌≡◌, List, [], ◌∷◌, Bool, true, false, length, eqb}
use Rattle.std.proofs.Math.Path.{refl, sym}
use Rattle.std.proofs.Common.{◌∙◌, arith}
use Rattle.window.specs.Memory.{◌⊕◌, place, byte_at, put_word}
use Rattle.window.specs.Bytes.{place-next, length-put_word, put_bytes-off}
use Rattle.linker_spec.specs.declared.call.Call.{Call}
use Rattle.linker_spec.specs.declared.call.Call.TheVariants.{Initialize, Load, Unload}
use Rattle.linker_spec.specs.Outcome.{Buffers}
use Rattle.history.specs.Sessions.{SameBytes}
use Rattle.desk_spec.specs.Command.{done_reply, loaded_reply, error_reply, reply_to, replied}
use Rattle.desk_spec.specs.Outcome.{reply}

-- from a higher address, what is left of a distance
further : (p a n q : ℕ) → a + n ≤ place p q → n ≤ place (p + a) q
further p zero n q h = let e : p + 0 ≡ p = omega arith in rw e (omega arith)
further p (suc a) n q h =
    let e : p + suc a ≡ p + 1 + a = omega arith in
    rw e (further (p + 1) a n q (place-next p q (a + n) (omega arith)))

mod-place : (x q : ℕ) → place (x % 2 ^ 32) q ≡ place x q
unfolding place
mod-place x q = let e : x % 2 ^ 32 % 2 ^ 32 ≡ x % 2 ^ 32 = omega arith in rw e

-- word i is the first of those from it on
first_word : (p i n q : ℕ) → 4 * (i + suc n) ≤ place p q → 4 ≤ place (p ⊕ 4 * i) q
first_word p i n q h = rw (mod-place (p + 4 * i) q) (further p (4 * i) 4 q (omega arith))

-- `n ≤ place p q`: q is none of the n bytes from p on
pub replied-off
    : (at : ℕ) (w : List ℕ) (p i : ℕ) (words : List ℕ) (q : ℕ) → 4 * (i + length words) ≤ place p q
    → byte_at at (replied at w p i words) q ≡ byte_at at w q
unfolding replied put_word
replied-off at w p i [] q h = refl
replied-off at w p i (v ∷ vs) q h =
    replied-off at (put_word at w (p ⊕ 4 * i) v) p (suc i) vs q (omega arith)
    ∙ put_bytes-off 4 at w (p ⊕ 4 * i) v q (first_word p i (length vs) q h)

pub replied-length : (at : ℕ) (w : List ℕ) (p i : ℕ) (words : List ℕ) → length (replied at w p i words) ≡ length w
unfolding replied
replied-length at w p i [] = refl
replied-length at w p i (v ∷ vs) = replied-length at (put_word at w (p ⊕ 4 * i) v) p (suc i) vs ∙ length-put_word at w (p ⊕ 4 * i) v

-- the same of the buffers
module _ (at p : ℕ) (words : List ℕ) (b : Buffers) where
  pub reply-register : SameBytes b (reply at p words b)
  unfolding reply
  reply-register = (refl, refl, refl)

  pub reply-length : length b.window ≡ length (reply at p words b).window
  unfolding reply
  reply-length = sym (replied-length at b.window p 0 words)

  pub reply-off : length words ≤ 3 → (q : ℕ) → 12 ≤ place p q → byte_at at b.window q ≡ byte_at at (reply at p words b).window q
  unfolding reply
  reply-off l q h = sym (replied-off at b.window p 0 words q (omega arith))

-- the reply to a call
pub few_words : (c : Call) (id number value : ℕ) → length (reply_to c id number value) ≤ 3
unfolding reply_to
few_words (Initialize base size) id number value = go (eqb number 0)
  where
    go : (done : Bool) → length (if done then done_reply id else error_reply id) ≤ 3
    go true = omega arith
    go false = omega arith
few_words (Load l auto level) id number value = go (eqb number 0)
  where
    go : (done : Bool) → length (if done then loaded_reply id value else error_reply id) ≤ 3
    go true = omega arith
    go false = omega arith
few_words (Unload base) id number value = omega arith
