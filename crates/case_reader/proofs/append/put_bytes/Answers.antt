use Prim.Native.Nat.{◌+◌, ◌-◌}
use mathlib.Core.Path.{◌≡◌, refl, sym}
use native.Mathlib.Omega.{arith}
use lib.ListN.{length}
use lib.Seq.{take-length}
use Rattle.std.proofs.lemmas.Slice.{put_mid-paste}
use Rattle.case_reader.specs.Append.{appended_full}
use Rattle.case_reader.proofs.append.Laws.{room_none, room_enough, laid}
use Rattle.case_reader.proofs.append.put_bytes.Goals as goal

pub returns-then-not-has_room : goal.returns-then-not-has_room
returns-then-not-has_room c = sym (appended_full _ _ _ (room_none _ _ _ c.has_room.ensures c.if-not-has_room.true))

pub returns : goal.returns
returns c =
    let a = c.args in
    let text = a.text.now in
    let n : length text ≡ a.at + length text - a.at = omega arith in
    let copied = put_mid-paste a.at _ a.buffer.now _ text (length text) c.copy_from_slice.ensures.after n refl in
    laid _ _ _ (room_enough _ _ _ c.has_room.ensures c.if-not-has_room.false) refl (rw take-length at copied)
