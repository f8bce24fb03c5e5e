-- Buffers that were written byte by byte, as the lists that the definitions give.
use Prim.Native.Nat.{ℕ, zero, suc, ◌+◌, ◌-◌, ◌/◌, ◌%◌, ◌<◌, ◌≤◌, min}
use mathlib.Core.Path.{◌≡◌, refl, sym, ◌∙◌}
use mathlib.Core.List.{List}
use native.Mathlib.Omega.{arith}
use native.Mathlib.Decide.{dec_lt, ℕ_discrete}
use lib.ListN.{length, take, drop, get_or, set, length-set, length-append, length-drop, get_or-append, get_or-eq_default}
use lib.Seq.{ext_get_or, get_or-append-add, get_or-set_same, get_or-set_other, get_or-drop, get_or-take, length-take-le}
use Rattle.window.specs.Bytes.{byte_of}
use Rattle.window.specs.Word.{set_word_in}
use Rattle.window.specs.Mirror.{put4, put4_on, put4-off}
use Rattle.layout.specs.Header.{magic, file_size}
use Rattle.writer_spec.specs.Description.{file_of, first_bytes, image_size, image_file, image_of, cro0, described_size, read_back}
use Rattle.writer_spec.specs.FirstBytes.{first-length, first-at}
use Rattle.writer_spec.specs.Outcome.{over}
use Rattle.writer.specs.Image.{between, Holds}
use Rattle.writer.proofs.image.Laws.{between_in, between_before, between-after}

-- a word stored in a list
module _ (w : List ℕ) (at v : ℕ) where
  abbrev first-stored : List ℕ
  first-stored = set w at (v % 256)

  abbrev second_stored : List ℕ
  second_stored = set first-stored (at + 1) (v / 256 % 256)

  abbrev third_stored : List ℕ
  third_stored = set second_stored (at + 2) (v / 256 / 256 % 256)

  pub stored-length : length (set_word_in w at v) ≡ length w
  unfolding set_word_in
  stored-length = simp length-set

  pub stored_byte : at + 4 ≤ length w → (o : ℕ) → file_of (set_word_in w at v) o ≡ put4 (file_of w) at v o
  unfolding set_word_in file_of byte_of
  stored_byte room o = go (ℕ_discrete o (at + 3)) (ℕ_discrete o (at + 2)) (ℕ_discrete o (at + 1)) (ℕ_discrete o at)
    where
      go
          : Dec (o ≡ at + 3) → Dec (o ≡ at + 2) → Dec (o ≡ at + 1) → Dec (o ≡ at)
          → get_or (set third_stored (at + 3) (v / 256 / 256 / 256 % 256)) o 0 ≡ put4 (file_of w) at v o
      go (yes fourth) q r s =
          rw fourth (get_or-set_same third_stored (at + 3) (v / 256 / 256 / 256 % 256) 0 (simp length-set (omega arith)) ∙ sym (put4_on (file_of w) at v 3 (omega arith)))
      go (no p) (yes third) r s =
          get_or-set_other third_stored (at + 3) o (v / 256 / 256 / 256 % 256) 0 p
          ∙ rw third (get_or-set_same second_stored (at + 2) (v / 256 / 256 % 256) 0 (simp length-set (omega arith)) ∙ sym (put4_on (file_of w) at v 2 (omega arith)))
      go (no p) (no q) (yes second) s =
          get_or-set_other third_stored (at + 3) o (v / 256 / 256 / 256 % 256) 0 p
          ∙ get_or-set_other second_stored (at + 2) o (v / 256 / 256 % 256) 0 q
          ∙ rw second (get_or-set_same first-stored (at + 1) (v / 256 % 256) 0 (simp length-set (omega arith)) ∙ sym (put4_on (file_of w) at v 1 (omega arith)))
      go (no p) (no q) (no r) (yes first) =
          let same : at + 0 ≡ at = omega arith in
          get_or-set_other third_stored (at + 3) o (v / 256 / 256 / 256 % 256) 0 p
          ∙ get_or-set_other second_stored (at + 2) o (v / 256 / 256 % 256) 0 q
          ∙ get_or-set_other first-stored (at + 1) o (v / 256 % 256) 0 r
          ∙ rw first (get_or-set_same w at (v % 256) 0 (omega arith) ∙ sym (rw same at (put4_on (file_of w) at v 0 (omega arith))))
      go (no p) (no q) (no r) (no s) =
          get_or-set_other third_stored (at + 3) o (v / 256 / 256 / 256 % 256) 0 p
          ∙ get_or-set_other second_stored (at + 2) o (v / 256 / 256 % 256) 0 q
          ∙ get_or-set_other first-stored (at + 1) o (v / 256 % 256) 0 r
          ∙ get_or-set_other w at o (v % 256) 0 s
          ∙ sym (put4-off (file_of w) at v o (λ i. absurd (omega (arith, i.0, i.1))))

-- a word put over equal bytes gives equal bytes
put_same : (M N : ℕ → ℕ) (at v o : ℕ) → M o ≡ N o → put4 M at v o ≡ put4 N at v o
unfolding put4
put_same M N at v o e = rw e

-- a list that has the first n bytes of F, and after them those of b, is F's first n bytes over b
pub is_over
    : (n : ℕ) (F : ℕ → ℕ) (b done : List ℕ) → n ≤ length b → length done ≡ length b → ((o : ℕ) → o < n → file_of done o ≡ F o)
    → ((o : ℕ) → n ≤ o → o < length b → file_of done o ≡ file_of b o) → done ≡ over (first_bytes n F) b
unfolding file_of
is_over n F b done room kept front rest = ext_get_or 0 done (over (first_bytes n F) b) (omega (arith, whole)) (λ o l. at o (dec_lt o n) (omega (arith, kept)))
  where
    whole : length (over (first_bytes n F) b) ≡ length b
    whole = simp (length-append, length-drop, first-length) (omega arith)

    at : (o : ℕ) → Dec (o < n) → o < length b → get_or done o 0 ≡ get_or (over (first_bytes n F) b) o 0
    at o (yes l) m =
        front o l ∙ sym (get_or-append (first_bytes n F) (drop (length (first_bytes n F)) b) 0 o (omega (arith, first-length n F)) ∙ first-at n F o l)
    at o (no l) m =
        let laid = first_bytes n F in
        let same : length laid + (o - n) ≡ o = omega (arith, first-length n F) in
        rest o (omega arith) m
        ∙ sym (rw same at (get_or-append-add laid (drop (length laid) b) (o - n) 0 ∙ get_or-drop (length laid) b (o - n) 0))

-- what `write_image` leaves: the description, zeros, the magic and the length
module _ (d b copied cleared named : List ℕ) (some : 0 < length d) (room : image_size d ≤ length b)
    (first : Holds b copied (between 0 (length d) (file_of d) (file_of b)))
    (second : Holds copied cleared (between (length d) (image_size d) (λ o. 0) (file_of copied)))
    (third : named ≡ set_word_in cleared magic cro0) where
  cleared-length : length cleared ≡ length b
  cleared-length = second.kept ∙ first.kept

  pub named-length : length named ≡ length b
  named-length = rw third (stored-length cleared magic cro0 ∙ cleared-length)

  described : (o : ℕ) → o < image_size d → file_of cleared o ≡ file_of d o
  unfolding file_of
  described o l = elim (dec_lt o (length d)) [
    | yes m ↦
        second.bytes o (omega (arith, first.kept))
        ∙ between_before (length d) (image_size d) (λ o. 0) (file_of copied) o m
        ∙ first.bytes o (omega arith)
        ∙ between_in 0 (length d) (file_of d) (file_of b) o (omega arith) m
    | no m ↦
        second.bytes o (omega (arith, first.kept))
        ∙ between_in (length d) (image_size d) (λ o. 0) (file_of copied) o (omega arith) l
        ∙ sym (get_or-eq_default d 0 (omega arith))
  ]

  past_image_lem : (o : ℕ) → image_size d ≤ o → o < length b → file_of cleared o ≡ file_of b o
  past_image_lem o l m =
      second.bytes o (omega (arith, first.kept))
      ∙ between-after (length d) (image_size d) (λ o. 0) (file_of copied) o (omega arith) l
      ∙ first.bytes o m
      ∙ between-after 0 (length d) (file_of d) (file_of b) o (omega arith) (omega arith)

  pub image_written : (done : List ℕ) → done ≡ set_word_in named file_size (image_size d) → done ≡ over (image_of d) b
  unfolding image_of image_file
  image_written done fourth =
      is_over (image_size d) (image_file d) b done room (rw fourth (stored-length named file_size (image_size d) ∙ named-length))
      (λ o l. bytes o (omega arith)
      ∙ put_same (put4 (file_of cleared) magic cro0) (put4 (file_of d) magic cro0) file_size (image_size d) o
      (put_same (file_of cleared) (file_of d) magic cro0 o (described o l)))
      (λ o l m. bytes o m
      ∙ put4-off (put4 (file_of cleared) magic cro0) file_size (image_size d) o (λ i. absurd (omega (arith, i.1)))
      ∙ put4-off (file_of cleared) magic cro0 o (λ i. absurd (omega (arith, i.1)))
      ∙ past_image_lem o l m)
    where
      bytes : (o : ℕ) → o < length b → file_of done o ≡ put4 (put4 (file_of cleared) magic cro0) file_size (image_size d) o
      bytes o l =
          rw fourth (stored_byte named file_size (image_size d) (omega (arith, named-length)) o)
          ∙ put_same (file_of named) (put4 (file_of cleared) magic cro0) file_size (image_size d) o
          (rw third (stored_byte cleared magic cro0 (omega (arith, cleared-length)) o))

-- a word of 0 put in is a run of zeros
zero_byte : (k : ℕ) → byte_of k 0 ≡ 0
unfolding byte_of
zero_byte zero = refl
zero_byte (suc k) = zero_byte k

put-zero : (M : ℕ → ℕ) (at o : ℕ) → put4 M at 0 o ≡ between at (at + 4) (λ q. 0) M o
unfolding put4 between
put-zero M at o = rw (zero_byte (o - at))

between-same : (from to : ℕ) (F G H : ℕ → ℕ) (o : ℕ) → G o ≡ H o → between from to F G o ≡ between from to F H o
unfolding between
between-same from to F G H o e = rw e

-- a run that is cut at `end` is the same before it, and nothing after it
module _ (at to end : ℕ) (F G : ℕ → ℕ) (o : ℕ) (ordered : at ≤ to) where
  cut_before : o < end → between (min at end) (min to end) F G o ≡ between at to F G o
  cut_before l = go (dec_lt o at) (dec_lt o to)
    where
      go : Dec (o < at) → Dec (o < to) → between (min at end) (min to end) F G o ≡ between at to F G o
      go (yes p) q =
          between_before (min at end) (min to end) F G o (omega arith) ∙ sym (between_before at to F G o p)
      go (no p) (yes q) =
          between_in (min at end) (min to end) F G o (omega arith) (omega arith) ∙ sym (between_in at to F G o (omega arith) q)
      go (no p) (no q) =
          between-after (min at end) (min to end) F G o (omega arith) (omega arith) ∙ sym (between-after at to F G o (omega arith) (omega arith))

  cut-after : end ≤ o → between (min at end) (min to end) F G o ≡ G o
  cut-after l = between-after (min at end) (min to end) F G o (omega arith) (omega arith)

-- what `read_image` leaves: the image's first bytes, without magic and length
pub description_read
    : (i b copied cleared done : List ℕ) (end : ℕ) → end ≡ described_size i → end ≤ length i → end ≤ length b
    → Holds b copied (between 0 (length (take end i)) (file_of (take end i)) (file_of b))
    → Holds copied cleared (between (min magic end) (min (magic + 4) end) (λ o. 0) (file_of copied))
    → Holds cleared done (between (min file_size end) (min (file_size + 4) end) (λ o. 0) (file_of cleared)) → done ≡ over (read_back i) b
unfolding read_back file_of
description_read i b copied cleared done end said whole room first second third =
    rw (← said)
    (is_over end (put4 (put4 (file_of i) magic 0) file_size 0) b done room (third.kept ∙ second.kept ∙ first.kept) front rest)
  where
    taken : length (take end i) ≡ end
    taken = length-take-le end i whole

    second_kept : length cleared ≡ length b
    second_kept = second.kept ∙ first.kept

    front : (o : ℕ) → o < end → file_of done o ≡ put4 (put4 (file_of i) magic 0) file_size 0 o
    front o l =
        third.bytes o (omega (arith, second_kept))
        ∙ cut_before file_size (file_size + 4) end (λ q. 0) (file_of cleared) o (omega arith) l
        ∙ between-same file_size (file_size + 4) (λ q. 0) (file_of cleared) (put4 (file_of i) magic 0) o
        (second.bytes o (omega (arith, first.kept))
        ∙ cut_before magic (magic + 4) end (λ q. 0) (file_of copied) o (omega arith) l
        ∙ between-same magic (magic + 4) (λ q. 0) (file_of copied) (file_of i) o
        (first.bytes o (omega arith)
        ∙ between_in 0 (length (take end i)) (file_of (take end i)) (file_of b) o (omega arith) (omega (arith, taken))
        ∙ get_or-take end i o 0 l)
        ∙ sym (put-zero (file_of i) magic o))
        ∙ sym (put-zero (put4 (file_of i) magic 0) file_size o)

    rest : (o : ℕ) → end ≤ o → o < length b → file_of done o ≡ file_of b o
    rest o l m =
        third.bytes o (omega (arith, second_kept))
        ∙ cut-after file_size (file_size + 4) end (λ q. 0) (file_of cleared) o (omega arith) l
        ∙ second.bytes o (omega (arith, first.kept))
        ∙ cut-after magic (magic + 4) end (λ q. 0) (file_of copied) o (omega arith) l
        ∙ first.bytes o m
        ∙ between-after 0 (length (take end i)) (file_of (take end i)) (file_of b) o (omega arith) (omega (arith, taken))
