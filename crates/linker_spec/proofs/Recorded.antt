-- What a module's record holds, whatever its image: names, ascending exports, at most 16 segments, 32-bit numbers. And that missing
-- names are names, at most 64.
use Rattle.std.specs.declared.cmp.Ordering.{Ordering}
use Rattle.std.specs.declared.cmp.Ordering.TheVariants.{Less, Equal, Greater}
use Rattle.std.specs.Prelude.{if◌then◌else◌, ℕ, ◌^◌, ◌≤◌, ◌<◌, ◌≡◌, refl, Bool, true, false, length, take, ltb, Option, Some, None}
use mathlib.Core.List.{List, [], ◌∷◌, ◌++◌}
use Rattle.std.proofs.Common.{arith, length-take, le-leb}
use Rattle.window.specs.Memory.{◌⊕◌}
use Rattle.window.specs.Access.{get32, run}
use Rattle.window.specs.Name.{is_name, order_of, name_at, name_at-is_name}
use Rattle.window.specs.Small.{word_at-small}
use Rattle.window.specs.Tests.{both, also}
use Rattle.layout.specs.Header.{export_named_symbol_table_offset, export_named_symbol_num, export_named_symbol_entry_size, export_indexed_symbol_table_offset, export_indexed_symbol_num, export_indexed_symbol_entry_size, segment_num, segment_table_offset, segment_entry_size, module_name_offset}
use Rattle.layout.specs.Format.{tag_segment, tag_offset}
use Rattle.layout.specs.Segments.{field, entry_at, segment, segment_entry, address_in, tag_to_address}
use Rattle.layout.specs.declared.format.Segment.{Segment}
use Rattle.register.specs.Module.{Export, named_ok, ascending, proper_module}
use Rattle.register.specs.Change.{by_order, put_named}
use Rattle.register.specs.Order.{put_ascends}
use Rattle.register.specs.Buffers.{Below}
use Rattle.register.specs.Append.Laid.{below_append, below_one}
use Rattle.register.specs.Append.Stands.{below_take}
use Rattle.linker_spec.specs.Relocation.{address_or0}
use Rattle.linker_spec.specs.Exports.{put_usable, named_export, named_exports, indexed_export, indexed_exports, offset_or0, most_segments, read_segments, read_module}
use Rattle.linker_spec.specs.Room.{Addressed}
use Rattle.linker_spec.specs.AnyResult.{Yields, yields_ret, yields_bind, yields_then, yields_if, yields_loop}
use Rattle.linker_spec.specs.Reads.{Is32Bit, Readable, RecordableExports}

pub none_kept : RecordableExports []
unfolding named_ok ascending Addressed
none_kept = record { names = refl; ascends = refl; small = tt }

-- names and addresses stay such
put_fields
    : (xs : List Export) (name : List ℕ) (a : ℕ) → is_name name ≡ true → a < 2 ^ 32 → named_ok xs ≡ true → Addressed xs
    → (named_ok (put_named xs name a) ≡ true) × Addressed (put_named xs name a)
unfolding put_named by_order named_ok Addressed
put_fields [] name a g s n h = (also g refl, (s, tt))
put_fields (x ∷ xs) name a g s n h = go (order_of name x.name) (put_fields xs name a g s (both (is_name x.name) (named_ok xs) n).1 h.1)
  where
    put : Ordering → List Export
    put o = by_order o (record { name = name; address = a } ∷ x ∷ xs) (record { name = x.name; address = a } ∷ xs) (x ∷ put_named xs name a)

    go : (o : Ordering) → (named_ok (put_named xs name a) ≡ true) × Addressed (put_named xs name a) → (named_ok (put o) ≡ true) × Addressed (put o)
    go Less k = (also g n, (s, h))
    go Equal k = (n, (s, h.1))
    go Greater k = (also (both (is_name x.name) (named_ok xs) n).0 k.0, (h.0, k.1))

put_kept : (xs : List Export) (name : List ℕ) (a : ℕ) → is_name name ≡ true → a < 2 ^ 32 → RecordableExports xs → RecordableExports (put_named xs name a)
put_kept xs name a g s k =
    let f = put_fields xs name a g s k.names k.small in
    record { names = f.0; ascends = put_ascends xs name a k.ascends; small = f.1 }

-- addresses wrap, so they are 32-bit numbers
address-small : (s : Option Segment) (x : ℕ) → address_or0 (address_in s x) < 2 ^ 32
unfolding address_in
address-small (Some s) x = go (ltb x s.size)
  where
    go : (t : Bool) → address_or0 (if t then Some (s.offset ⊕ x) else None) < 2 ^ 32
    go true = omega arith
    go false = omega arith
address-small None x = omega arith

abbrev SmallAddress : Option ℕ → Type 0
SmallAddress a = address_or0 a < 2 ^ 32

usable_kept : (xs : List Export) (name : List ℕ) (a : Option ℕ) → is_name name ≡ true → SmallAddress a → RecordableExports xs → RecordableExports (put_usable xs name a)
unfolding put_usable
usable_kept xs name (Some a) g s k = put_kept xs name a g s k
usable_kept xs name None g s k = k

module _ (at : ℕ) where
  pub name_yields : (p : ℕ) → Yields at (λ name. is_name name ≡ true) (name_at p)
  name_yields p w b = name_at-is_name at p w

  address_yields : (base tag : ℕ) → Yields at SmallAddress (tag_to_address base tag)
  unfolding tag_to_address
  address_yields base tag =
      yields_then at SmallAddress (segment base (tag_segment tag)) _
      (λ s. yields_ret at SmallAddress (address_in s (tag_offset tag)) (address-small s (tag_offset tag)))

  word_yields : (p : ℕ) → Yields at Is32Bit (get32 p)
  unfolding run
  word_yields p w b = word_at-small at w p b

  module _ (base : ℕ) where
    named_exports_yields : Yields at RecordableExports (named_exports base)
    unfolding named_exports named_export
    named_exports_yields =
        yields_then at RecordableExports (field base export_named_symbol_table_offset) _
        (λ table. yields_then at RecordableExports (field base export_named_symbol_num) _
        (λ count. yields_loop at RecordableExports _ (λ i xs k.
        yields_then at RecordableExports (get32 (entry_at table i export_named_symbol_entry_size)) _
        (λ p. yields_bind at (λ name. is_name name ≡ true) RecordableExports (name_at p) _ (name_yields p)
        (λ name g. yields_then at RecordableExports (get32 (entry_at table i export_named_symbol_entry_size ⊕ 4)) _
        (λ tag. yields_bind at SmallAddress RecordableExports (tag_to_address base tag) _ (address_yields base tag)
        (λ a s. yields_ret at RecordableExports (put_usable xs name a) (usable_kept xs name a g s k))))))
        0 count [] none_kept))

    abbrev All32Bit : List ℕ → Type 0
    All32Bit xs = Below (2 ^ 32) xs

    one_more : (xs : List ℕ) (v : ℕ) → All32Bit xs → v < 2 ^ 32 → All32Bit (xs ++ (v ∷ []))
    one_more xs v h s = below_append xs (v ∷ []) (2 ^ 32) h (below_one v s)

    indexed_exports_yields : Yields at All32Bit (indexed_exports base)
    unfolding indexed_exports indexed_export
    indexed_exports_yields =
        yields_then at All32Bit (field base export_indexed_symbol_table_offset) _
        (λ table. yields_then at All32Bit (field base export_indexed_symbol_num) _
        (λ count. yields_loop at All32Bit _ (λ i xs k.
        yields_then at All32Bit (get32 (entry_at table i export_indexed_symbol_entry_size)) _
        (λ tag. yields_bind at SmallAddress All32Bit (tag_to_address base tag) _ (address_yields base tag)
        (λ a s. yields_ret at All32Bit (xs ++ (address_or0 a ∷ [])) (one_more xs (address_or0 a) k s))))
        0 count [] (λ i. omega arith)))

    abbrev SmallStart : Segment → Type 0
    SmallStart s = s.offset < 2 ^ 32

    abbrev SmallOffset : Option Segment → Type 0
    SmallOffset s = offset_or0 s < 2 ^ 32

    segment_yields : (i : ℕ) → Yields at SmallOffset (segment base i)
    unfolding segment segment_entry
    segment_yields i =
        yields_then at SmallOffset (field base segment_num) _
        (λ count. yields_if at SmallOffset (ltb i count) _ _
        (λ _. yields_then at SmallOffset (field base segment_table_offset) _
        (λ table. yields_bind at SmallStart SmallOffset _ _
        (yields_bind at Is32Bit SmallStart (get32 (entry_at table i segment_entry_size)) _ (word_yields _)
        (λ offset h. yields_then at SmallStart (get32 (entry_at table i segment_entry_size ⊕ 4)) _
        (λ size. yields_then at SmallStart (get32 (entry_at table i segment_entry_size ⊕ 8)) _
        (λ kind. yields_ret at SmallStart _ h))))
        (λ s h. yields_ret at SmallOffset (Some s) h)))
        (λ _. yields_ret at SmallOffset None (omega arith)))

    abbrev FewSegments : List ℕ → Type 0
    FewSegments xs = (length xs ≤ 16) × All32Bit xs

    -- cut at 16
    cut : (n : ℕ) (xs : List ℕ) → n ≤ 16 → All32Bit xs → FewSegments (take n xs)
    cut n xs l h = (rw length-take (omega arith), below_take n (2 ^ 32) xs (omega arith) h)

    read_segments_yields : Yields at FewSegments (read_segments base)
    unfolding read_segments
    read_segments_yields =
        yields_then at FewSegments (field base segment_num) _
        (λ count. yields_bind at All32Bit FewSegments _ _
        (yields_loop at All32Bit _ (λ i xs k. yields_bind at SmallOffset All32Bit (segment base i) _ (segment_yields i)
        (λ s h. yields_ret at All32Bit (xs ++ (offset_or0 s ∷ [])) (one_more xs (offset_or0 s) k h)))
        0 count [] (λ i. omega arith))
        (λ xs h. yields_ret at FewSegments (take most_segments xs) (cut most_segments xs (omega arith) h)))

  pub read_module_yields : (base size : ℕ) (auto : Bool) → base < 2 ^ 32 → size < 2 ^ 32 → Yields at (Readable at) (read_module base size auto)
  unfolding read_module proper_module
  read_module_yields base size auto hb hs =
      yields_bind at RecordableExports (Readable at) (named_exports base) _ (named_exports_yields base)
      (λ named k. yields_bind at (Below (2 ^ 32)) (Readable at) (indexed_exports base) _ (indexed_exports_yields base)
      (λ indexed x. yields_bind at (λ xs. (length xs ≤ 16) × Below (2 ^ 32) xs) (Readable at) (read_segments base) _ (read_segments_yields base)
      (λ segments s. yields_then at (Readable at) (field base module_name_offset) _
      (λ p. yields_bind at (λ name. is_name name ≡ true) (Readable at) (name_at p) _ (name_yields p)
      (λ name g. yields_ret at (Readable at)
      (record { base = base; size = size; auto = auto; name = name; segments = segments; named = named; indexed = indexed }) (
        also g (also (le-leb (length segments) 16 s.0) (also k.names k.ascends)),
        record { base = hb; size = hs; segments = s.1; named = k.small; indexed = x },
      ))))))
