use Rattle.std.proofs.Common.{◌-◌, length, arith}
use borrow.Rule.Slice.PartMut.{same_len_mid}
use Rattle.register.specs.Append.Draft.{room-inside, room_word}
use Rattle.linker.proofs.exports.Laws.{shut_named, full_named, written-named, open_draft}
use Rattle.linker.proofs.waiting.Laws.{open_ends}
use Rattle.linker.proofs.exports.add_all_named.Goals as goal

pub returns-then-not-is_open : goal.returns-then-not-is_open
returns-then-not-is_open c = shut_named _ _ _ _ c.is_open.ensures c.if-not-is_open.true

pub gather_all_named-requires : goal.gather_all_named-requires
gather_all_named-requires c = let o = open_draft _ _ c.is_open.ensures c.if-not-is_open.false in (o.1, omega (arith, o.2))

pub returns-in_err-last : goal.returns-in_err-last
returns-in_err-last c =
    rw c.from_residual.ensures
    (full_named _ _ _ _ c.args.at c.args.w.now _ _ _ c.gather_all_named.ensures.1 c.in_err-last.was)

pub slice_bounds-write_names-count : goal.slice_bounds-write_names-count
slice_bounds-write_names-count c = let e = open_ends _ _ _ _ c.gather_all_named.ensures.0 c.in_ok-last.was in e.0

pub slice_bounds-write_names-start : goal.slice_bounds-write_names-start
slice_bounds-write_names-start c = let e = open_ends _ _ _ _ c.gather_all_named.ensures.0 c.in_ok-last.was in omega (arith, e.0)

pub slice_bounds-write_names-end : goal.slice_bounds-write_names-end
slice_bounds-write_names-end c = let e = open_ends _ _ _ _ c.gather_all_named.ensures.0 c.in_ok-last.was in omega (arith, e.0, e.1, room-inside (length c.gather_all_named.new.records))

pub overflow_cast-last : goal.overflow_cast-last
overflow_cast-last c = let e = open_ends _ _ _ _ c.gather_all_named.ensures.0 c.in_ok-last.was in omega (arith, e.2)

pub overflow_sub-count : goal.overflow_sub-count
overflow_sub-count c = let e = open_ends _ _ _ _ c.gather_all_named.ensures.0 c.in_ok-last.was in e.0

pub overflow_add-before : goal.overflow_add-before
overflow_add-before c =
    let o = open_draft _ _ c.is_open.ensures c.if-not-is_open.false in
    omega (arith, o.0, o.1, room_word (length c.args.records.now))

pub overflow_cast-count : goal.overflow_cast-count
overflow_cast-count c =
    let e = open_ends _ _ _ _ c.gather_all_named.ensures.0 c.in_ok-last.was in
    omega (arith, e.1, room_word (length c.gather_all_named.new.records))

pub store32-requires : goal.store32-requires
store32-requires c =
    let o = open_draft _ _ c.is_open.ensures c.if-not-is_open.false in
    let l = same_len_mid c.args.before.end (c.in_ok-last.last.end - c.args.before.end) c.gather_all_named.new.records
    c.write_names.new.waiting c.write_names.auto.waiting in
    omega (arith, o.0, o.1, l, c.gather_all_named.auto.records, room-inside (length c.args.records.now))

pub returns : goal.returns
returns c =
    let e = open_ends _ _ _ _ c.gather_all_named.ensures.0 c.in_ok-last.was in
    written-named _ _ _ _ c.args.at c.args.w.now _ _ _ c.gather_all_named.ensures.1 _ c.in_ok-last.was e.0
    c.write_names.ensures c.store32.ensures
