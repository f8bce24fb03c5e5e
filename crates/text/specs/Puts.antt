-- What putting a text leaves of a buffer and its text's length.
use Rattle.std.specs.Prelude.{ℕ, ◌≡◌, List, ◌++◌}
use Rattle.std.proofs.Common.{◌∙◌}
use Rattle.text.specs.declared.Text.{Text}
use Rattle.text.specs.Text.{put}
use Rattle.text.specs.Laws.{put_then, put-then-two}

-- the text's length and the buffer's bytes
abbrev pub written : Text → ℕ × List ℕ
written t = (t.length, t.buffer.now)

-- s is put after the text, into the same buffer
pub record Puts (s : List ℕ) (old new : Text) : Type 0 where
  pub text : written new ≡ put s (written old)
  pub same : new.buffer.ghost_name ≡ old.buffer.ghost_name

-- pieces put one after another are put as one text
pub puts_then : {s t : List ℕ} {a b c : Text} → Puts s a b → Puts t b c → Puts (s ++ t) a c
puts_then p q = record { text = put_then _ _ _ p.text q.text; same = q.same ∙ p.same }

pub puts-then-two : {s : List ℕ} (t u : List ℕ) {a b c : Text} → Puts s a b → Puts (t ++ u) b c → Puts (s ++ t ++ u) a c
puts-then-two t u p q = record { text = put-then-two _ t _ p.text u q.text; same = q.same ∙ p.same }
