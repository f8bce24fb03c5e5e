-- What a module exports, as its record keeps it.
use Rattle.std.specs.Prelude.{ℕ, List, [], ◌∷◌, ◌++◌, Bool, take, Option, Some, None}
use Rattle.window.specs.Memory.{◌⊕◌}
use Rattle.window.specs.Access.{Prog, ret, ◌>>=◌, get32, Reads, reads_bind}
use Rattle.window.specs.Loop.{loop, loop_reads}
use Rattle.window.specs.Name.{name_at, name_at_reads}
use Rattle.layout.specs.Header.{export_named_symbol_table_offset, export_named_symbol_num, export_named_symbol_entry_size, export_indexed_symbol_table_offset, export_indexed_symbol_num, export_indexed_symbol_entry_size, segment_num, module_name_offset}
use Rattle.layout.specs.Segments.{field, entry_at, segment, segment_reads, tag_to_address, tag_to_address_reads}
use Rattle.register.specs.Module.{Export, Module}
use Rattle.register.specs.Change.{put_named}
use Rattle.linker_spec.specs.Relocation.{address_or0}
use Rattle.layout.specs.declared.format.Segment.{Segment}

-- "A later export of the same name replaces an earlier one; an unusable tag replaces nothing."
unfoldable pub put_usable : List Export → List ℕ → Option ℕ → List Export
put_usable xs name (Some a) = put_named xs name a
put_usable xs name None = xs

unfoldable pub named_export : ℕ → ℕ → List Export → Prog (List Export)
named_export base entry xs = do
  p ← get32 entry
  name ← name_at p
  tag ← get32 (entry ⊕ 4)
  a ← tag_to_address base tag
  ret (put_usable xs name a)

unfoldable pub named_exports : ℕ → Prog (List Export)
named_exports base = do
  table ← field base export_named_symbol_table_offset
  count ← field base export_named_symbol_num
  loop (λ i xs. named_export base (entry_at table i export_named_symbol_entry_size) xs) 0 count []

-- "an indexed one has address 0" where its tag is unusable
unfoldable pub indexed_export : ℕ → ℕ → List ℕ → Prog (List ℕ)
indexed_export base entry xs = do
  tag ← get32 entry
  a ← tag_to_address base tag
  ret (xs ++ (address_or0 a ∷ []))

unfoldable pub indexed_exports : ℕ → Prog (List ℕ)
indexed_exports base = do
  table ← field base export_indexed_symbol_table_offset
  count ← field base export_indexed_symbol_num
  loop (λ i xs. indexed_export base (entry_at table i export_indexed_symbol_entry_size) xs) 0 count []

abbrev pub offset_or0 : Option Segment → ℕ
offset_or0 (Some s) = s.offset
offset_or0 None = 0

-- "segments (at most 16, all a tag can reach)": all are read, the first 16 are kept
abbrev pub most_segments : ℕ
most_segments = 16

unfoldable pub read_segments : ℕ → Prog (List ℕ)
read_segments base = do
  count ← field base segment_num
  xs ← loop (λ i xs. segment base i >>= λ s. ret (xs ++ (offset_or0 s ∷ []))) 0 count []
  ret (take most_segments xs)

-- the record of a module: exports, segments, then its name
unfoldable pub read_module : ℕ → ℕ → Bool → Prog Module
read_module base size auto = do
  named ← named_exports base
  indexed ← indexed_exports base
  segments ← read_segments base
  p ← field base module_name_offset
  name ← name_at p
  ret (record { base = base; size = size; auto = auto; name = name; segments = segments; named = named; indexed = indexed })

-- a module's record is only read
pub named_exports_reads : (base : ℕ) → Reads (named_exports base)
unfolding named_exports named_export field Reads ◌>>=◌
named_exports_reads base t n =
    loop_reads _ 0 n []
    (λ j xs p. reads_bind (name_at p) _ (name_at_reads p)
    (λ name tag. reads_bind (tag_to_address base tag) _ (tag_to_address_reads base tag) (λ a. tt)))

pub indexed_exports_reads : (base : ℕ) → Reads (indexed_exports base)
unfolding indexed_exports indexed_export field Reads ◌>>=◌
indexed_exports_reads base t n =
    loop_reads _ 0 n [] (λ j xs tag. reads_bind (tag_to_address base tag) _ (tag_to_address_reads base tag) (λ a. tt))

pub read_segments_reads : (base : ℕ) → Reads (read_segments base)
unfolding read_segments field Reads ◌>>=◌
read_segments_reads base n =
    reads_bind (loop _ 0 n []) _ (loop_reads _ 0 n [] (λ j xs. reads_bind (segment base j) _ (segment_reads base j) (λ s. tt))) (λ xs. tt)

pub read_module_reads : (base size : ℕ) (auto : Bool) → Reads (read_module base size auto)
unfolding read_module field Reads ◌>>=◌
read_module_reads base size auto =
    reads_bind (named_exports base) _ (named_exports_reads base)
    (λ xs. reads_bind (indexed_exports base) _ (indexed_exports_reads base)
    (λ ys. reads_bind (read_segments base) _ (read_segments_reads base) (λ zs p. reads_bind (name_at p) _ (name_at_reads p) (λ name. tt))))
