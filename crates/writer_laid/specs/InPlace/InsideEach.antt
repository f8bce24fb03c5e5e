-- A relocated word that passes the test lies in the areas of each place.
use Rattle.std.specs.Prelude.{◌+◌, ◌≤◌, ◌<◌, ◌≡◌, true}
use Rattle.std.proofs.Common.{inl, inr, arith, leb-true}
use Rattle.std.proofs.Math.Decide.{dec_le}
use Rattle.linker_spec.specs.declared.rebase.LoadArguments.{LoadArguments}
use Rattle.writer_spec.specs.Words.{word_inside}
use Rattle.writer_spec.specs.declared.words.Room.{Room}
use Rattle.writer_spec.specs.declared.words.WordPlace.{WordPlace}
use Rattle.writer_spec.specs.declared.words.WordPlace.TheVariants.{InImage, InData, InBss, Nowhere}
use Rattle.writer_laid.specs.InPlace.Places.{Holds}
use Rattle.writer_laid.specs.InPlace.Standing.{InAreas, Inside}
use Rattle.writer_laid.specs.InPlace.Far.{inside_near, far_lent}

pub inside_each
    : (room : Room) (l : LoadArguments) → Holds room l → 0 < room.size → (w : WordPlace) → word_inside room w ≡ true → Inside l w
unfolding word_inside
inside_each room l h image (InData t) g p a q b = inr (inl (omega (arith, leb-true (t + 4) room.data_size g, h.data_enough)))
inside_each room l h image (InBss t) g p a q b = inr (inr (omega (arith, leb-true (t + 4) room.bss_size g, h.bss_enough)))
inside_each room l h image Nowhere g p a q b = absurd a
inside_each room l h image (InImage c) g p a q b = go (dec_le c room.size)
  where
    go : Dec (c ≤ room.size) → InAreas l q
    go (yes m) = inl (omega (arith, inside_near room c m g, h.whole, h.base_below))
    go (no m) = inr (far_lent room l h image c p q (omega arith) g a b)
