-- The invariant: what is left of the text, put where the loop stands, gives what the whole text gives.
use Rattle.std.proofs.Common.{◌≡◌, drop}
use Rattle.text.specs.Text.{put}
use Rattle.text.specs.Puts.{written}
use Rattle.text.proofs.Text.put.Given as goal

abbrev pub invariant-loop-c : goal.invariant-loop-c
invariant-loop-c l =
    (put (drop l.c-index l.text) (written l.self) ≡ put l.text (written l.initial.self))
    × (l.self.buffer.ghost_name ≡ l.initial.self.buffer.ghost_name)
