-- Sendings and turns of the request's worked example, by computation.
use Rattle.std.specs.Prelude.{ℕ, ◌≡◌, refl, List, [], ◌∷◌, take, Some}
use Rattle.desk_spec.specs.Desk.{Desk, place_at, with_place, place_of, no_room_for, place_after, next_after, changed, first_waiting, turn_of}
use Rattle.desk_spec.specs.Bytes.{place_word, desk_word, words_from}
use Rattle.desk_order.specs.Ops.{Op, sends, turns, send_to, serve_at, after, after_all, empty_desk}

-- five sendings of three callers, then turns
example : List Op
example =
    sends 7 0x101000 ∷ sends 7 0x101100 ∷ sends 9 0x101200 ∷ sends 5 0x101300 ∷ sends 5 0x101400 ∷ turns ∷ turns ∷ turns ∷ turns ∷ []

desk_after : ℕ → Desk
desk_after n = after_all (take n example) empty_desk

desk-begins : words_from (desk_after 5) 8 0 ≡ 3 ∷ 0 ∷ 0 ∷ 0 ∷ 7 ∷ 2 ∷ 0x101000 ∷ 0x101100 ∷ []
unfolding example desk_after after_all after send_to no_room_for changed place_after next_after with_place place_at place_of words_from desk_word place_word
desk-begins = refl

-- they go to 7, 9, 5, round to 7, and past 9, which has nothing left, to 5
in_turn
    : (turn_of (desk_after 5) ≡ Some 0) × (turn_of (desk_after 6) ≡ Some 1) × (turn_of (desk_after 7) ≡ Some 2) × (turn_of (desk_after 8) ≡ Some 0)
    × (turn_of (desk_after 9) ≡ Some 2)
unfolding example desk_after after_all after send_to serve_at no_room_for changed place_after next_after with_place place_at place_of turn_of first_waiting
in_turn = (refl, refl, refl, refl, refl)
