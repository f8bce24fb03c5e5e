-- Byte by byte.
use Rattle.window.proofs.TraceLaws.{word_out, word_out₁, word_out₂, word_out₃, word_in}
use Rattle.window.proofs.word_outside.Goals as goal

pub returns-then-n-place_of : goal.returns-then-n-place_of
returns-then-n-place_of c = word_out c.args.at c.args.n c.args.x c.place_of.ensures c.if-n-place_of.true

pub returns-then-n-place_of-2 : goal.returns-then-n-place_of-2
returns-then-n-place_of-2 c = word_out₁ c.args.at c.args.n c.args.x c.place_of.ensures c.if-n-place_of.false c.wrapping_add_u32.ensures.value c.place_of-2.ensures c.if-n-place_of-2.true

pub returns-then-n-place_of-3 : goal.returns-then-n-place_of-3
returns-then-n-place_of-3 c = word_out₂ c.args.at c.args.n c.args.x c.place_of.ensures c.if-n-place_of.false c.wrapping_add_u32.ensures.value c.place_of-2.ensures c.if-n-place_of-2.false c.wrapping_add_u32-2.ensures.value c.place_of-3.ensures c.if-n-place_of-3.true

pub returns-then-n-place_of-4 : goal.returns-then-n-place_of-4
returns-then-n-place_of-4 c = word_out₃ c.args.at c.args.n c.args.x c.place_of.ensures c.if-n-place_of.false c.wrapping_add_u32.ensures.value c.place_of-2.ensures c.if-n-place_of-2.false c.wrapping_add_u32-2.ensures.value c.place_of-3.ensures c.if-n-place_of-3.false c.wrapping_add_u32-3.ensures.value c.place_of-4.ensures c.if-n-place_of-4.true

pub returns : goal.returns
returns c = word_in c.args.at c.args.n c.args.x c.place_of.ensures c.if-n-place_of.false c.wrapping_add_u32.ensures.value c.place_of-2.ensures c.if-n-place_of-2.false c.wrapping_add_u32-2.ensures.value c.place_of-3.ensures c.if-n-place_of-3.false c.wrapping_add_u32-3.ensures.value c.place_of-4.ensures c.if-n-place_of-4.false
