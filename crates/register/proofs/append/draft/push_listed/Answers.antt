use Rattle.std.proofs.Common.{arith}
use Rattle.register.proofs.append.Laws.{open_places, listed_shut, listed_full, listed_open, open_start}
use Rattle.register.proofs.append.draft.push_listed.Goals as goal

pub returns-then-not-is_open : goal.returns-then-not-is_open
returns-then-not-is_open c = listed_shut _ _ _ _ c.is_open.ensures c.if-not-is_open.true

pub count_up-requires : goal.count_up-requires
count_up-requires c =
    let h = open_places _ _ c.is_open.ensures c.if-not-is_open.false in (
      c.requires,
      omega (
        arith,
        h.0,
        h.1,
        open_start _ _ _ 0 c.is_open.ensures c.if-not-is_open.false
            c.push_word.ensures _ c.in_ok-next.was,
        c.push_word.auto.records,
      ),
    )

pub returns-in_err-next : goal.returns-in_err-next
returns-in_err-next c =
    rw c.from_residual.ensures
    (listed_full _ _ _ _ c.is_open.ensures c.if-not-is_open.false
    c.push_word.ensures c.in_err-next.was)

pub returns : goal.returns
returns c =
    rw c.count_up.ensures
    (listed_open _ _ _ _ c.is_open.ensures c.if-not-is_open.false c.push_word.ensures _
    c.in_ok-next.was)
