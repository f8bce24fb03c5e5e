use Rattle.std.proofs.Common.{◌≡◌, ◌*◌, refl, ap, ◌∙◌, arith}
use Rattle.window.specs.Word.{set_word_in}
use Rattle.desk_spec.specs.Desk.{changed}
use Rattle.desk_spec.specs.Bytes.{desk_of, desk_word}
use Rattle.desk.proofs.places.Writing.{copy_desk, written, none_written, one_written, all-written}
use Rattle.desk.proofs.places.make_change.Goals as goal

pub loop-k-init : goal.loop-k-init
loop-k-init c = (refl, none_written _ _)

pub word_after-requires : goal.word_after-requires
word_after-requires c =
    let first = rw c.unwrap.ensures at c.first_chunk.ensures.cases in
    rw (copy_desk c.args.desk.now first.same) c.requires.1

pub loop-k-preserved : goal.loop-k-preserved
loop-k-preserved c =
    let args = c.args in
    let now = c.loop-k in
    let word = c.word_after in
    let first = rw c.unwrap.ensures at c.first_chunk.ensures.cases in
    let same = copy_desk args.desk.now first.same in (
      c.store32.auto.w ∙ now.invariant.0,
      c.store32.ensures
          ∙ ap (λ l. set_word_in l (4 * now.k) word.result) now.invariant.1
          ∙ one_written _ _ now.k (word.ensures ∙ ap (λ d. desk_word (changed args.change d) now.k) same),
    )

pub returns : goal.returns
returns c =
    let now = c.loop-k in
    let args = c.args in
    let done : now.k ≡ 148 = omega arith in
    now.invariant.1 ∙ ap (written (changed args.change (desk_of args.desk.now)) args.desk.now) done ∙ all-written _ _
