use Rattle.std.proofs.Common.{◌≡◌, arith}
use Rattle.window.specs.Memory.{◌⊖◌}
use Rattle.register.specs.Change.Bytes.{lower_word}
use Rattle.register.proofs.change.lower.lower_word.Goals as goal

pub returns : goal.returns
unfolding lower_word
returns c = let e : c.wrapping_sub_u32.result
    ≡ c.load32-value.result ⊖ c.args.d = omega arith in
    rw (c.store32.ensures, e, c.load32-value.ensures)
