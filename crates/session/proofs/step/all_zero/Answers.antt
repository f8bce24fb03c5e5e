use Rattle.std.proofs.Common.{rules, ◌≡◌, ◌↔◌, EachIndex, true, get_or}
use Rattle.session.proofs.step.Laws.{zero_words}
use Rattle.session.proofs.step.all_zero.Goals as goal

pub returns : goal.returns
returns c =
    let words = c.args.words.now in
    let all : (c.all.result ≡ true) ↔ EachIndex words (λ k. get_or words k 0 ≡ 0) = search rules in
    zero_words words all.0 all.1
