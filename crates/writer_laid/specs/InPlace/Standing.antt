-- A relocated word in a place, by its offset in the image or a lent area.
use Rattle.std.specs.Prelude.{ℕ, ◌+◌, ◌≤◌, ◌<◌, ◌≡◌, ◌⊎◌}
use Rattle.window.specs.Within.{In}
use Rattle.linker_spec.specs.declared.rebase.LoadArguments.{LoadArguments}
use Rattle.writer_spec.specs.declared.words.Room.{Room}
use Rattle.writer_spec.specs.declared.words.WordPlace.{WordPlace}
use Rattle.writer_spec.specs.declared.words.WordPlace.TheVariants.{InImage, InData, InBss, Nowhere}
use Rattle.writer_laid.specs.InPlace.Places.{Holds}
use Rattle.writer_laid.specs.InPlace.Line.{past}

-- the address at which it stands
abbrev pub Stands : LoadArguments → WordPlace → ℕ → Type 0
Stands l (InImage c) p = p ≡ past l.base c
Stands l (InData t) p = p ≡ l.data_segment + t
Stands l (InBss t) p = p ≡ l.bss_segment + t
Stands l Nowhere p = ⊥

-- the addresses of the image and the lent areas
abbrev pub InAreas : LoadArguments → ℕ → Type 0
InAreas l q =
    In l.base l.size q
    ⊎ (In l.data_segment l.data_segment_size q ⊎ In l.bss_segment l.bss_segment_size q)

-- the word lies in them; and no address is in both of two words
abbrev pub Inside : LoadArguments → WordPlace → Type 0
Inside l w = (p : ℕ) → Stands l w p → (q : ℕ) → In p 4 q → InAreas l q

abbrev pub ApartIn : LoadArguments → WordPlace → WordPlace → Type 0
ApartIn l v w = (p q x : ℕ) → Stands l v p → Stands l w q → In p 4 x → In q 4 x → ⊥

-- so in each place
abbrev pub InsideAll : Room → WordPlace → Type 0
InsideAll room w = (l : LoadArguments) → Holds room l → Inside l w

abbrev pub ApartAll : Room → WordPlace → WordPlace → Type 0
ApartAll room v w = (l : LoadArguments) → Holds room l → Inside l v × Inside l w × ApartIn l v w

-- the offsets that words of a packed image have: past its header, and past its end by less than a Data segment
abbrev pub Bounded : Room → WordPlace → Type 0
Bounded room (InImage c) = (0x138 ≤ c) × (room.size ≤ c → c + 2 ≤ room.size + room.data_size)
Bounded room (InData t) = t < room.data_size
Bounded room (InBss t) = t < room.bss_size
Bounded room Nowhere = Unit {0}
