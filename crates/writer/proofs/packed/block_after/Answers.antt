use native.Mathlib.Omega.{arith}
use Rattle.writer_spec.specs.Description.{file_of}
use Rattle.writer.proofs.packed.Laws.{block_misplaced, block-behind-bytes, block-placed}
use Rattle.writer.proofs.packed.block_after.Goals as goal

pub returns-then-at-ne0 : goal.returns-then-at-ne0
returns-then-at-ne0 c = let a = c.args in block_misplaced (file_of a.bytes.now) a.pos a.offset a.size (λ e. c.if-at-ne0.true (omega arith))

pub returns-then-at-pos : goal.returns-then-at-pos
returns-then-at-pos c = let a = c.args in block_misplaced (file_of a.bytes.now) a.pos a.offset a.size (λ e. omega arith)

pub returns-then-at-pos-gt3 : goal.returns-then-at-pos-gt3
returns-then-at-pos-gt3 c = let a = c.args in block_misplaced (file_of a.bytes.now) a.pos a.offset a.size (λ e. omega arith)

pub returns-then-not-zeros : goal.returns-then-not-zeros
returns-then-not-zeros c = let a = c.args in block-behind-bytes (file_of a.bytes.now) a.pos a.offset a.size (omega arith) c.zeros.ensures c.if-not-zeros.true

pub returns : goal.returns
returns c = let a = c.args in block-placed (file_of a.bytes.now) a.pos a.offset a.size (omega arith) c.zeros.ensures c.if-not-zeros.false
