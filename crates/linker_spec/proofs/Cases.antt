-- The proved cases of document 01's table that live here, and the batch that never ends.
use Prim.Native.Nat.{ℕ, zero, suc, ◌+◌, ◌-◌, ◌%◌, ◌^◌, ◌<◌}
use Rattle.std.specs.Prelude.{if◌then◌else◌, ◌≡◌, true, false, not, eqb, Some, None, Option}
use Rattle.std.proofs.Math.Path.{refl, ap}
use Rattle.std.proofs.Common.{◌∙◌, ne_eqb}
use mathlib.Core.List.{List}
use native.Mathlib.Omega.{arith}
use borrow.Fn.Enter.{pair≡}
use Rattle.window.specs.Memory.{◌⊕◌, good_window, byte_at, word_at}
use Rattle.window.specs.Access.{ret, ◌>>=◌, ◌>>◌, put8, run, run_bind, reads_same}
use Rattle.window.specs.Loop.{loop, loop_none, loop-more}
use Rattle.layout.specs.Header.{magic, segment_num, relocation_entry_size}
use Rattle.layout.specs.Format.{tag_segment}
use Rattle.layout.specs.Segments.{field, segment, set_segment, segment_at, segment_place, segment-found, segment_reads, segment_missing, tag_to_address, tag_missing, tag_to_address_reads}
use Rattle.layout.specs.declared.format.Segment.{Segment}
use Rattle.layout.specs.declared.format.SegmentType.TheVariants.{Data}
use Rattle.linker_spec.specs.declared.rebase.LoadArguments.{LoadArguments}
use Rattle.linker_spec.specs.Rebase.{is_magic, move_header, lent_place, place, write_back, move_found, move_segment, move_segments}
use Rattle.linker_spec.specs.Relocation.{relocate_at, reset_entry, walk, batch_limit, apply_relocation_batch, batch_is_resolved}
use Rattle.linker_spec.specs.Resets.{reset}
use Rattle.register.specs.Decode.{is_register}
use Rattle.linker_spec.specs.Calls.{number, value}
use Rattle.linker_spec.specs.Outcome.{Buffers, load_outcome}
use Rattle.linker_spec.specs.Refusals.{windowed}
use Rattle.linker_spec.proofs.Refusals.{load_2}
use Rattle.linker_spec.specs.Numbers.{fits_in, loaded_module}
use Rattle.linker_spec.proofs.Numbers.{load_0}
use Rattle.linker_spec.specs.Fix.{align_up, fixed_to, fix_from, fix}
use Rattle.linker_spec.specs.Cases.{data_of, lent_16}

module _ (base size data-segment bss-segment bss-segment-size offset old : ℕ) where
  pub data_16
      : place (lent_16 base size data-segment bss-segment bss-segment-size) (data_of offset 16) Data old ≡ Some (data_of data-segment 16, offset ⊕ base)
  unfolding place lent_place
  data_16 = refl

  pub data_17 : place (lent_16 base size data-segment bss-segment bss-segment-size) (data_of offset 17) Data old ≡ None
  unfolding place lent_place
  data_17 = refl

-- a load whose first segment is refused answers 2, and its segments are as they were
module _ (at : ℕ) (l : LoadArguments) (w : List ℕ) where
  pub stays_bad : (n i : ℕ) → run at (loop (move_segment l) i n None) w ≡ (None, w)
  unfolding loop move_segment run ◌>>=◌
  stays_bad zero i = refl
  stays_bad (suc n) i = stays_bad n (suc i)

  module _ (n : ℕ) (c : word_at at w (l.base ⊕ segment_num) ≡ suc n) (s : Segment)
      (e : segment_at at w (segment_place at w l.base 0) ≡ s) where
    first_found : run at (segment l.base 0) w ≡ (Some s, w)
    first_found =
        pair≡ (segment-found at l.base 0 w (omega (arith, c)) ∙ ap Some e)
        (reads_same at (segment l.base 0) w (segment_reads l.base 0))

    first-turn : run at (move_segment l 0 (Some 0)) w ≡ run at (write_back l.base 0 (place l s s.kind 0)) w
    unfolding move_segment move_found
    first-turn = run_bind at (segment l.base 0) _ w ∙ rw first_found

    pub first-refused : place l s s.kind 0 ≡ None → run at (move_segments l) w ≡ (None, w)
    unfolding move_segments write_back field run ◌>>=◌
    first-refused f =
        ap (λ k. run at (loop (move_segment l) 0 k (Some 0)) w) c
        ∙ loop-more at (move_segment l) 0 n (Some 0) w
        ∙ rw (first-turn, f) (stays_bad n 1)

  -- and one whose only segment gets its place goes on, with the old place of Data
  pub only_placed
      : word_at at w (l.base ⊕ segment_num) ≡ 1 → (s : Segment) → segment_at at w (segment_place at w l.base 0) ≡ s → {t : Segment} {old : ℕ}
      → place l s s.kind 0 ≡ Some (t, old) → (run at (move_segments l) w).0 ≡ Some old
  unfolding move_segments write_back field run ◌>>=◌
  only_placed c s e {t} {old} f =
      ap (λ k. (run at (loop (move_segment l) 0 k (Some 0)) w).0) c
      ∙ ap (λ (x : Option ℕ × List ℕ). x.0) (loop-more at (move_segment l) 0 0 (Some 0) w)
      ∙ ap (λ (x : Option ℕ × List ℕ). x.0) (loop_none at (move_segment l) 1 _ _)
      ∙ ap (λ (x : Option ℕ × List ℕ). x.0)
      (first-turn 0 c s e ∙ ap (λ p. run at (write_back l.base 0 p) w) f ∙ run_bind at (set_segment l.base 0 t) _ w)

-- "Data size 17, lent 16": number 2, the window as the header's move left it
pub load_17
    : (base size data-segment bss-segment bss-segment-size offset auto level at n : ℕ) (b : Buffers) → good_window at b.window ≡ true
    → is_register b.records b.names b.missing ≡ true → is_magic (word_at at b.window (base ⊕ magic)) ≡ true
    → (w : List ℕ) → (run at (move_header true base) b.window).1 ≡ w → word_at at w (base ⊕ segment_num) ≡ suc n
    → segment_at at w (segment_place at w base 0) ≡ data_of offset 17
    → load_outcome (lent_16 base size data-segment bss-segment bss-segment-size) auto level at b ≡ record { number = 2; value = 0; left = windowed b w }
unfolding number value
load_17 base size data-segment bss-segment bss-segment-size offset auto level at n b g v m w h c e =
    let l = lent_16 base size data-segment bss-segment bss-segment-size in
    let f = data_17 base size data-segment bss-segment bss-segment-size offset 0 in
    load_2 at b g v l auto level m (ap (λ t. run at (move_segments l) t) h ∙ first-refused at l w n c _ e f)

-- "Data size 16, lent 16": number 0, for a module of that one segment whose record fits
pub load_16
    : (base size data-segment bss-segment bss-segment-size offset auto level at : ℕ) (b : Buffers) → good_window at b.window ≡ true
    → is_register b.records b.names b.missing ≡ true → is_magic (word_at at b.window (base ⊕ magic)) ≡ true
    → (w : List ℕ) → (run at (move_header true base) b.window).1 ≡ w → word_at at w (base ⊕ segment_num) ≡ 1
    → segment_at at w (segment_place at w base 0) ≡ data_of offset 16
    → fits_in at b (loaded_module at (lent_16 base size data-segment bss-segment bss-segment-size) (not (eqb auto 0)) b.window) ≡ true
    → (load_outcome (lent_16 base size data-segment bss-segment bss-segment-size) auto level at b).number ≡ 0
load_16 base size data-segment bss-segment bss-segment-size offset auto level at b g v m w h c e f =
    let l = lent_16 base size data-segment bss-segment bss-segment-size in
    let p = data_16 base size data-segment bss-segment bss-segment-size offset 0 in
    load_0 at b g v l auto level m (offset ⊕ base) (ap (λ t. (run at (move_segments l) t).0) h ∙ only_placed at l w c _ e p) f

-- "length 0x148, size 0x1000", "length 0x1001, size 0x1800": the greatest end is so far above the base, below 2^32
pub length_0x148 : (base : ℕ) → base + 0x148 < 2 ^ 32 → fixed_to (base ⊕ 0x148) base 0x1000 ≡ 0x1000
unfolding fixed_to align_up
length_0x148 base h = let e : (base + 0x148) % 2 ^ 32 - base ≡ 0x148 = omega (arith, h) in rw e

pub length_0x1001 : (base : ℕ) → base + 0x1001 < 2 ^ 32 → fixed_to (base ⊕ 0x1001) base 0x1800 ≡ 0x1800
unfolding fixed_to align_up
length_0x1001 base h = let e : (base + 0x1001) % 2 ^ 32 - base ≡ 0x1001 = omega (arith, h) in rw e

-- "level 4"
pub level_4 : (at base size : ℕ) (w : List ℕ) → run at (fix base size 4) w ≡ (0, w)
unfolding fix run
level_4 at base size w = refl

-- "Levels 1, 2, 3 cut from 0x120, 0x0F0, 0x0D0."
module _ (base size : ℕ) where
  pub level_1 : fix base size 1 ≡ fix_from base size 0x120
  unfolding fix
  level_1 = refl

  pub level_2 : fix base size 2 ≡ fix_from base size 0xf0
  unfolding fix
  level_2 = refl

  pub level_3 : fix base size 3 ≡ fix_from base size 0xd0
  unfolding fix
  level_3 = refl

-- a handler of 0 writes no relocation at `initialize` and `load`: the mark alone is cleared
pub no_handler : (base entry : ℕ) → reset_entry base 0 entry ≡ put8 (entry ⊕ 6) 0
unfolding reset_entry ◌>>=◌
no_handler base entry = refl

-- and at an unload it is written like any other: a resolved batch is walked with symbol 0
pub no_handler-unload
    : (base batch : ℕ) → (batch ≡ 0 → ⊥)
    → reset base 0 batch
    ≡ (batch_is_resolved batch >>= λ resolved. if resolved then apply_relocation_batch base batch 0 false >> ret tt else ret tt)
unfolding reset
no_handler-unload base batch n = rw (ne_eqb batch 0 n)

-- A batch without an end mark: on a window of zeros, 0x1001 entries are walked, and nothing is written.
module _ (at base symbol : ℕ) (w : List ℕ) (z : (x : ℕ) → byte_at at w x ≡ 0) where
  word_0 : (x : ℕ) → word_at at w x ≡ 0
  unfolding word_at
  word_0 x = rw (z x, z (x + 1), z (x + 2), z (x + 3))

  nowhere : (tag : ℕ) → (run at (tag_to_address base tag) w).0 ≡ None
  nowhere tag =
      tag_missing at base tag w
      (segment_missing at base (tag_segment tag) w (let e = word_0 (base ⊕ segment_num) in omega (arith, e)))

  walk_on
      : (f entry n : ℕ)
      → run at (walk (suc f) base symbol entry n) w ≡ run at (walk f base symbol (entry ⊕ relocation_entry_size) (suc n)) w
  unfolding walk relocate_at run ◌>>=◌
  walk_on f entry n =
      let t = word_at at w entry in
      let s : (run at (tag_to_address base t) w).1 ≡ w = reads_same at (tag_to_address base t) w (tag_to_address_reads base t) in
      run_bind at (tag_to_address base t) _ w ∙ rw (nowhere t, s, z (entry ⊕ 5))

  walks : (f entry n : ℕ) → run at (walk f base symbol entry n) w ≡ (n + f, w)
  unfolding walk run
  walks zero entry n = let e : n + 0 ≡ n = omega arith in rw e
  walks (suc f) entry n =
      let e : suc n + f ≡ n + suc f = omega arith in
      walk_on f entry n ∙ walks f (entry ⊕ relocation_entry_size) (suc n) ∙ rw e

  pub endless_batch : (entry : ℕ) → run at (walk batch_limit base symbol entry 0) w ≡ (0x1001, w)
  endless_batch entry = walks batch_limit entry 0
