use Rattle.std.proofs.Common.{refl, ◌∙◌}
use Rattle.text.proofs.Laws.{byte_in, byte_out, put-done}
use Rattle.text.proofs.Text.put.Goals as goal
use Rattle.text.proofs.Text.put.Goals.{then-self, else-self}

pub loop-c-preserved : goal.loop-c-preserved
loop-c-preserved c =
    let l = c.loop-c in
    let t = c.args.text.now in
    let h = c.loop-c-test.true in
    elim c.if-self.branch [
      | then-self w ↦
          let o = byte_in t l.c-index l.self.length l.self.buffer.now h w.if-self.true refl refl in
          rw w.self-is (o.1 ∙ l.invariant.0, l.invariant.1)
      | else-self w ↦
          let o = byte_out t l.c-index l.self.length l.self.buffer.now h w.if-self.false refl refl in
          rw w.self-is (o.1 ∙ l.invariant.0, l.invariant.1)
    ]

pub returns : goal.returns
returns c = record { text = put-done _ _ c.loop-c-test.false ∙ c.loop-c.invariant.0; same = c.loop-c.invariant.1 }
