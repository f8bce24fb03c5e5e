use Rattle.std.proofs.Common.{◌+◌, ◌-◌, ◌*◌, ◌/◌, length, refl, arith}
use Rattle.window.specs.Name.{name-fits, name_is, name_taken}
use Rattle.register.specs.Append.Draft.{room-inside, room_word}
use Rattle.linker.proofs.waiting.Laws.{at_place, before_place, fits-room, ends_open, ends_full, again_step, full_step, new-step}
use Rattle.linker.proofs.waiting.put_waiting.Goals as goal

pub slice_bounds-position_of-end : goal.slice_bounds-position_of-end
slice_bounds-position_of-end c = omega (arith, room-inside (length c.args.records.now))

pub slice_bounds-buffer-end : goal.slice_bounds-buffer-end
slice_bounds-buffer-end c = name-fits _ _ c.peek_name-count.ensures

pub slice_bounds-position_of-end-2 : goal.slice_bounds-position_of-end-2
slice_bounds-position_of-end-2 c = name_taken _ _ c.peek_name-count.ensures

pub overflow_mul-k : goal.overflow_mul-k
overflow_mul-k c =
    let h = at_place c.args.records.now c.args.from (c.args.from + 8 * ((c.args.before.end - c.args.from) / 12)) c.in-Ok.k _
    c.position_of.ensures.0 (omega arith) (omega (arith, c.requires.1, room-inside (length c.args.records.now))) c.in-Ok.is in
    omega (arith, h, c.requires.1, room_word (length c.args.records.now))

pub overflow_add-from : goal.overflow_add-from
overflow_add-from c =
    let h = at_place c.args.records.now c.args.from (c.args.from + 8 * ((c.args.before.end - c.args.from) / 12)) c.in-Ok.k _
    c.position_of.ensures.0 (omega arith) (omega (arith, c.requires.1, room-inside (length c.args.records.now))) c.in-Ok.is in
    omega (arith, h, c.requires.1, room_word (length c.args.records.now))

pub overflow_add-from-in-Ok : goal.overflow_add-from-in-Ok
overflow_add-from-in-Ok c =
    let h = at_place c.args.records.now c.args.from (c.args.from + 8 * ((c.args.before.end - c.args.from) / 12)) c.in-Ok.k _
    c.position_of.ensures.0 (omega arith) (omega (arith, c.requires.1, room-inside (length c.args.records.now))) c.in-Ok.is in
    omega (arith, h, c.requires.1, room_word (length c.args.records.now))

pub store32-requires : goal.store32-requires
store32-requires c =
    let h = at_place c.args.records.now c.args.from (c.args.from + 8 * ((c.args.before.end - c.args.from) / 12)) c.in-Ok.k _
    c.position_of.ensures.0 (omega arith) (omega (arith, c.requires.1, room-inside (length c.args.records.now))) c.in-Ok.is in
    omega (arith, h, c.requires.0, c.requires.1, room-inside (length c.args.records.now))

pub returns-then-not-has_room : goal.returns-then-not-has_room
returns-then-not-has_room c = (
  ends_full _ _,
  λ g m first exports ef h. full_step c.args.at c.args.w.now c.args.place c.args.address _ _ _ _ _ _ _ c.args.before refl
      c.position_of.ensures.1 (name_is _ _ c.peek_name-count.ensures) (name_taken _ _ c.peek_name-count.ensures) c.ranges.address.fits g m first exports ef h
      c.in-Err.is c.has_room.ensures c.if-not-has_room.true,
)

pub overflow_mul-k-in-Err : goal.overflow_mul-k-in-Err
overflow_mul-k-in-Err c =
    let h = before_place c.args.records.now c.args.from (c.args.from + 8 * ((c.args.before.end - c.args.from) / 12)) c.in-Err.k _
    c.position_of.ensures.0 (omega arith) (omega (arith, c.requires.1, room-inside (length c.args.records.now))) c.in-Err.is in
    omega (arith, h, c.requires.1, room_word (length c.args.records.now))

pub overflow_add-from-in-Err : goal.overflow_add-from-in-Err
overflow_add-from-in-Err c =
    let h = before_place c.args.records.now c.args.from (c.args.from + 8 * ((c.args.before.end - c.args.from) / 12)) c.in-Err.k _
    c.position_of.ensures.0 (omega arith) (omega (arith, c.requires.1, room-inside (length c.args.records.now))) c.in-Err.is in
    omega (arith, h, c.requires.1, room_word (length c.args.records.now))

pub insert_waiting-requires : goal.insert_waiting-requires
insert_waiting-requires c =
    let h = before_place c.args.records.now c.args.from (c.args.from + 8 * ((c.args.before.end - c.args.from) / 12)) c.in-Err.k _
    c.position_of.ensures.0 (omega arith) (omega (arith, c.requires.1, room-inside (length c.args.records.now))) c.in-Err.is in
    let r = fits-room c.args.records.now _ c.args.before _ c.has_room.ensures c.if-not-has_room.false in
    (h, omega (arith, r.0, c.requires.0, room-inside (length c.args.records.now)))

pub overflow_add-result : goal.overflow_add-result
overflow_add-result c =
    let r = fits-room c.args.records.now _ c.args.before _ c.has_room.ensures c.if-not-has_room.false in
    omega (arith, r.0, room_word (length c.args.records.now))

pub overflow_add-result-in-Err : goal.overflow_add-result-in-Err
overflow_add-result-in-Err c =
    let r = fits-room _ c.args.names.now c.args.before _ c.has_room.ensures c.if-not-has_room.false in
    omega (arith, r.1, room_word (length c.args.names.now))

pub returns-in-Ok : goal.returns-in-Ok
returns-in-Ok c = (
  ends_open _ _ _ c.requires.0 (rw c.store32.auto.w c.requires.1) c.requires.2,
  λ g m first exports ef h. again_step c.args.at c.args.w.now c.args.place c.args.address _ _ _ _ _ _ _ c.args.before refl
      c.position_of.ensures.1 (name_is _ _ c.peek_name-count.ensures) (name_taken _ _ c.peek_name-count.ensures) c.ranges.address.fits g m first exports ef h
      c.in-Ok.is c.store32.ensures,
)

pub returns-else-not-has_room : goal.returns-else-not-has_room
returns-else-not-has_room c =
    let r = fits-room c.args.records.now c.args.names.now c.args.before _ c.has_room.ensures c.if-not-has_room.false in (
      ends_open _ _ _ (omega (arith, c.requires.0)) (rw c.insert_waiting.auto.buffer r.0) (omega (arith, r.1, room_word (length c.args.names.now))),
      λ g m first exports ef h. new-step c.args.at c.args.w.now c.args.place c.args.address _ _ _ _ _ _ _ c.args.before refl
          c.position_of.ensures.1 (name_is _ _ c.peek_name-count.ensures) (name_taken _ _ c.peek_name-count.ensures) c.ranges.address.fits g m first exports ef h
          c.in-Err.is c.has_room.ensures c.if-not-has_room.false c.ranges.place.fits c.insert_waiting.ensures,
    )
