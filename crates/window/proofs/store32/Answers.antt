-- The four stores are those of `set_word_in`, one by one.
use Rattle.std.proofs.Common.{refl, arith, length-set}
use Rattle.window.specs.Word.{set_word_in}
use Rattle.window.proofs.store32.Goals as goal

pub bounds-w-i-2 : goal.bounds-w-i-2
bounds-w-i-2 c = simp length-set (omega arith)

pub bounds-w-i-3 : goal.bounds-w-i-3
bounds-w-i-3 c = simp length-set (omega arith)

pub bounds-w-i-4 : goal.bounds-w-i-4
bounds-w-i-4 c = simp length-set (omega arith)

pub returns : goal.returns
unfolding set_word_in
returns c = refl
