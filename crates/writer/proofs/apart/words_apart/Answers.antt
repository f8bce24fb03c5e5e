use Rattle.std.proofs.Common.{arith}
use Rattle.writer.proofs.apart.Laws.{next_is, next-inside, external_walked, internal_walked, words_overlap, all_walked, external_left, internal_left, both_counted}
use Rattle.writer.proofs.apart.words_apart.Goals as goal
use Rattle.writer.proofs.apart.words_apart.Goals.{then-first, else-first}

pub get-word-requires : goal.get-word-requires
get-word-requires c =
    next-inside _
    (next_is _ c.external_first-first.result (both_counted _ c.args.words.now.externals_counted c.args.words.now.internals_counted) c.args.words.now.externals_counted c.loop-turn.invariant.1 (omega arith)
    c.external_first-first.ensures c.next_number.ensures)

pub returns-then-not-clear_of : goal.returns-then-not-clear_of
returns-then-not-clear_of c =
    words_overlap _ _ _ c.loop-turn.last c.args.words.now.externals_counted c.loop-turn.invariant.1 c.loop-turn.invariant.2
    (next_is _ c.external_first-first.result (both_counted _ c.args.words.now.externals_counted c.args.words.now.internals_counted) c.args.words.now.externals_counted c.loop-turn.invariant.1 (omega arith)
    c.external_first-first.ensures c.next_number.ensures) c.get-word.ensures c.clear_of.ensures c.if-not-clear_of.true

pub loop-turn-preserved : goal.loop-turn-preserved
loop-turn-preserved c =
    let so_far = c.loop-turn.invariant in
    elim c.if-first.branch [
      | then-first w ↦
          rw (w.i-is, w.j-is) (
            omega arith,
            omega (arith, c.args.words.now.externals_counted, external_left _ c.loop-turn.i c.loop-turn.j w.if-first.true c.external_first-first.ensures),
            so_far.2,
            external_walked _ _ _ so_far.3 c.get-word.ensures c.clear_of.ensures c.if-not-clear_of.false c.key.ensures
                c.max-last.ensures _ w.if-first.true c.next_number.ensures,
          )
      | else-first w ↦
          rw (w.i-is, w.j-is) (
            omega arith,
            so_far.1,
            omega (
              arith,
              internal_left _ c.loop-turn.i c.loop-turn.j (both_counted _ c.args.words.now.externals_counted c.args.words.now.internals_counted) c.args.words.now.externals_counted so_far.1
                  (omega arith) w.if-first.false c.external_first-first.ensures,
            ),
            internal_walked _ _ _ so_far.3 c.get-word.ensures c.clear_of.ensures c.if-not-clear_of.false c.key.ensures
                c.max-last.ensures c.args.words.now.externals_counted w.if-first.false c.next_number.ensures,
          )
    ]

pub returns : goal.returns
returns c =
    all_walked _ _ _ (both_counted _ c.args.words.now.externals_counted c.args.words.now.internals_counted) c.args.words.now.externals_counted c.loop-turn.invariant.1 c.loop-turn.invariant.2
    (omega arith) c.loop-turn.invariant.3
