-- A module that shows its view gives the record that says what the image says.
use Prim.Native.Nat.{ℕ, zero, suc, ◌+◌, ◌≤◌, ◌<◌}
use Rattle.std.specs.Prelude.{if◌then◌else◌, ◌≡◌, List, [], ◌∷◌, ◌++◌, Bool, take, Option, Some, None}
use Rattle.std.proofs.Math.Path.{refl}
use Rattle.std.proofs.Common.{◌∙◌, arith, lit<, lit≤, lt-ltb, le-ltb}
use Rattle.std.proofs.Math.Bool.{true, false}
use Rattle.std.proofs.Math.Decide.{dec_lt}
use Rattle.std.proofs.Math.Dec.{ltb}
use Rattle.window.specs.Memory.{◌⊕◌}
use Rattle.window.specs.Access.{Prog, ret, ◌>>=◌, get32}
use Rattle.window.specs.Loop.{loop}
use Rattle.window.specs.Name.{name_at}
use Rattle.window.specs.Within.{Low}
use Rattle.window.specs.Mirror.{word}
use Rattle.layout.specs.Header.{module_name_offset}
use Rattle.layout.specs.Format.{tag_segment, tag_offset}
use Rattle.layout.specs.Segments.{field, entry_at, segment, tag_to_address}
use Rattle.register.specs.Words.{same}
use Rattle.register.specs.Module.{Export, Module}
use Rattle.register.specs.Read.Read.{address_of, entry_of}
use Rattle.register.specs.Read.Read as read
use Rattle.linker_spec.specs.Imports as imports
use Rattle.linker_spec.specs.Exports as exports
use Rattle.linker_spec.specs.Exports.{put_usable, offset_or0, read_module}
use Rattle.linker_spec.specs.Relocation.{address_or0}
use Rattle.history.specs.Image.{tables, segments, named_exports, indexed_exports, start, count, entry, module_name}
use Rattle.history.specs.LoadedModule.{Image, base_of, size_of, moved_offset, segment_place, placed_segment, address, Area, export_name, export_address, later_export, export_among, export_of, indexed_of, anonymous_of}
use Rattle.history.specs.WellLaid.{table, of_module, of_export, WellLaid}
use Rattle.history.specs.Steps.Wp.{Memory, Does, ReadsValue, does_mono, does_loop, reads_then, reads_ret, reads_get32}
use Rattle.history.specs.Steps.View.{View, name-field, export_name_field, export_tag, indexed_tag}
use Rattle.history.specs.Steps.Parts.{part-inside, entry-in_table}
use Rattle.history.specs.Steps.Reading.{plain-sum, four_at, entry_at_lem, reads_field, reads_count, reads_start, reads_segment, reads_address, reads_name}
use Rattle.history.specs.Steps.Records.{Recorded}
use Rattle.history.specs.Steps.Gathered.{put-named, gathered, entry-gathered, entry_taken}

module _ (m : Image) where
  abbrev F : ℕ → ℕ
  F = m.file

  -- the first n named exports, as the record keeps them
  unfoldable pub named_among : ℕ → List Export
  named_among zero = []
  named_among (suc n) = put_usable (named_among n) (export_name m n) (export_address m n)

  unfoldable pub indexed_address : ℕ → ℕ
  indexed_address i = address_or0 (address m (word F (entry F indexed_exports i)))

  unfoldable pub segment_offset : ℕ → ℕ
  segment_offset i = offset_or0 (placed_segment m i)

  -- the record that the image gives
  unfoldable pub record_for : ℕ → Bool → Module
  record_for size auto =
      record {
        base = base_of m.load_call;
        size = size;
        auto = auto;
        name = module_name F;
        segments = take 16 (gathered segment_offset (count F segments));
        named = named_among (count F named_exports);
        indexed = gathered indexed_address (count F indexed_exports);
      }

  named-found : (n : ℕ) (name : List ℕ) → address_of (named_among n) name ≡ export_among m n name
  unfolding named_among export_among address_of put_usable later_export
  named-found zero name = refl
  named-found (suc n) name = go (export_address m n) (same name (export_name m n)) refl (named-found n name)
    where
      go
          : (a : Option ℕ) (c : Bool) → same name (export_name m n) ≡ c → address_of (named_among n) name ≡ export_among m n name
          → address_of (put_usable (named_among n) (export_name m n) a) name ≡ later_export c a (export_among m n name)
      go (Some p) true e ih = put-named (named_among n) (export_name m n) p name ∙ rw e refl
      go (Some p) false e ih = put-named (named_among n) (export_name m n) p name ∙ rw e ih
      go None true e ih = ih
      go None false e ih = ih

  index_is : (i : ℕ) → (if ltb i (count F indexed_exports) then Some (indexed_address i) else None) ≡ indexed_of m i
  unfolding indexed_of indexed_address
  index_is i = refl

  offset_is : (i : ℕ) → i < count F segments → segment_offset i ≡ segment_place m i
  unfolding segment_offset placed_segment
  offset_is i l = rw (lt-ltb i (count F segments) l) refl

  -- a tag's segment is below 16
  tag_is
      : (t : ℕ)
      → imports.plus (entry_of (take 16 (gathered segment_offset (count F segments))) (tag_segment t)) (tag_offset t) ≡ anonymous_of m t
  unfolding anonymous_of
  tag_is t =
      rw (
        entry_taken (gathered segment_offset (count F segments)) (tag_segment t) (omega arith),
        entry-gathered segment_offset (count F segments) (tag_segment t),
      )
      (go (dec_lt (tag_segment t) (count F segments)))
    where
      go
          : Dec (tag_segment t < count F segments)
          → imports.plus (if ltb (tag_segment t) (count F segments) then Some (segment_offset (tag_segment t)) else None) (tag_offset t)
          ≡ (if ltb (tag_segment t) (count F segments) then Some (segment_place m (tag_segment t) ⊕ tag_offset t) else None)
      go (yes l) = rw (lt-ltb (tag_segment t) (count F segments) l, offset_is (tag_segment t) l) refl
      go (no l) = rw (le-ltb (tag_segment t) (count F segments) (omega arith)) refl

  pub recorded : (size : ℕ) → Recorded m (record_for size true)
  unfolding record_for read.export_of export_of imports.anonymous_of
  recorded size =
      record {
        base = refl;
        name = refl;
        auto = refl;
        exports = λ name. named-found (count F named_exports) name;
        indexes = λ i. entry-gathered indexed_address (count F indexed_exports) i ∙ index_is i;
        anonymous = λ t. tag_is t;
      }

  module _ (laid : WellLaid m) (low : Low (Area m)) {M : Memory} (view : View m M) where
    abbrev base : ℕ
    base = base_of m.load_call

    abbrev S : ℕ → Type 0
    S = Area m

    -- a loop that only reads
    reads_loop
        : {A : Type 0} (body : ℕ → A → Prog A) (f : ℕ → A) (n : ℕ) → ((j : ℕ) → j < n → ReadsValue S (body j (f j)) (f (suc j)) M)
        → ReadsValue S (loop body 0 n (f 0)) (f n) M
    reads_loop body f n step =
        let z : 0 + n ≡ n = omega arith in
        rw z at
        (does_loop S body (λ j a N. (a ≡ f j) × (N ≡ M)) 0 n (f 0) M (λ j b N l g e. rw (e.0, e.1) (step j (omega arith))) (refl, refl))

    named-inside : (i : ℕ) → i < count F named_exports → entry F named_exports i + 8 ≤ size_of m.load_call
    unfolding tables
    named-inside i l = let e = part-inside m laid (table 1) _ (entry-in_table F 1 i 7 (lit< tt) l (lit< tt)) in omega (arith, e)

    indexed_inside : (i : ℕ) → i < count F indexed_exports → entry F indexed_exports i + 4 ≤ size_of m.load_call
    unfolding tables
    indexed_inside i l = let e = part-inside m laid (table 2) _ (entry-in_table F 2 i 3 (lit< tt) l (lit< tt)) in omega (arith, e)

    reads_named
        : (i : ℕ) → i < count F named_exports
        → ReadsValue S (exports.named_export base (base + entry F named_exports i) (named_among i)) (named_among (suc i)) M
    unfolding exports.named_export named_among export_name export_address
    reads_named i l =
        let b = named-inside i l in
        let t = plain-sum m laid low (entry F named_exports i + 4) (omega (arith, b)) in
        let z : base + entry F named_exports i ⊕ 4 ≡ base + (entry F named_exports i + 4) = omega (arith, t) in
        reads_then S (get32 (base + entry F named_exports i)) _ (moved_offset base (word F (entry F named_exports i)))
        (reads_get32 S _ (four_at m laid low (entry F named_exports i) (omega (arith, b))) (view.moved (entry F named_exports i) (export_name_field i l)))
        (reads_then S (name_at (moved_offset base (word F (entry F named_exports i)))) _ (export_name m i)
        (reads_name m laid low view (word F (entry F named_exports i)) (of_export i l))
        (rw z
        (reads_then S (get32 (base + (entry F named_exports i + 4))) _ (word F (entry F named_exports i + 4))
        (reads_get32 S _ (four_at m laid low (entry F named_exports i + 4) (omega (arith, b)))
        (view.kept (entry F named_exports i + 4) (export_tag i l)))
        (reads_then S (tag_to_address base (word F (entry F named_exports i + 4))) _ (export_address m i)
        (reads_address m laid low view (word F (entry F named_exports i + 4))) (reads_ret S _)))))

    reads_nameds : ReadsValue S (exports.named_exports base) (named_among (count F named_exports)) M
    unfolding exports.named_exports tables named_among
    reads_nameds =
        reads_then S (field base 0xd0) _ (moved_offset base (start F named_exports)) (reads_start m laid low view 1 (lit< tt))
        (reads_then S (field base 0xd4) _ (count F named_exports) (reads_count m laid low view 1 (lit< tt))
        (reads_loop (λ i xs. exports.named_export base (entry_at (moved_offset base (start F named_exports)) i 8) xs) named_among (count F named_exports)
        (λ i l. rw (entry_at_lem m laid low 1 i (lit< tt) l (let b = named-inside i l in omega (arith, b))) (reads_named i l))))

    reads_indexed
        : (i : ℕ) → i < count F indexed_exports
        → ReadsValue S (exports.indexed_export base (base + entry F indexed_exports i) (gathered indexed_address i)) (gathered indexed_address (suc i)) M
    unfolding exports.indexed_export gathered indexed_address
    reads_indexed i l =
        let b = indexed_inside i l in
        reads_then S (get32 (base + entry F indexed_exports i)) _ (word F (entry F indexed_exports i))
        (reads_get32 S _ (four_at m laid low (entry F indexed_exports i) (omega (arith, b))) (view.kept (entry F indexed_exports i) (indexed_tag i l)))
        (reads_then S (tag_to_address base (word F (entry F indexed_exports i))) _ (address m (word F (entry F indexed_exports i)))
        (reads_address m laid low view (word F (entry F indexed_exports i))) (reads_ret S _))

    reads_indexeds : ReadsValue S (exports.indexed_exports base) (gathered indexed_address (count F indexed_exports)) M
    unfolding exports.indexed_exports tables gathered
    reads_indexeds =
        reads_then S (field base 0xd8) _ (moved_offset base (start F indexed_exports)) (reads_start m laid low view 2 (lit< tt))
        (reads_then S (field base 0xdc) _ (count F indexed_exports) (reads_count m laid low view 2 (lit< tt))
        (reads_loop (λ i xs. exports.indexed_export base (entry_at (moved_offset base (start F indexed_exports)) i 4) xs) (gathered indexed_address)
        (count F indexed_exports)
        (λ i l. rw (entry_at_lem m laid low 2 i (lit< tt) l (let b = indexed_inside i l in omega (arith, b))) (reads_indexed i l))))

    reads_segments : ReadsValue S (exports.read_segments base) (take 16 (gathered segment_offset (count F segments))) M
    unfolding exports.read_segments tables gathered segment_offset
    reads_segments =
        reads_then S (field base 0xcc) _ (count F segments) (reads_count m laid low view 0 (lit< tt))
        (reads_then S (loop (λ i xs. segment base i >>= λ s. ret (xs ++ (offset_or0 s ∷ []))) 0 (count F segments) []) _
        (gathered segment_offset (count F segments))
        (reads_loop (λ i xs. segment base i >>= λ s. ret (xs ++ (offset_or0 s ∷ []))) (gathered segment_offset) (count F segments)
        (λ i l. reads_then S (segment base i) _ (placed_segment m i) (reads_segment m laid low view i) (reads_ret S _)))
        (reads_ret S _))

    -- the module's record is that one
    pub reads_module : (size : ℕ) (auto : Bool) → ReadsValue S (read_module base size auto) (record_for size auto) M
    unfolding read_module record_for module_name
    reads_module size auto =
        reads_then S (exports.named_exports base) _ _ reads_nameds
        (reads_then S (exports.indexed_exports base) _ _ reads_indexeds
        (reads_then S (exports.read_segments base) _ _ reads_segments
        (reads_then S (field base module_name_offset) _ (moved_offset base (word F module_name_offset))
        (reads_field m laid low view module_name_offset (lit≤ tt) (view.moved module_name_offset name-field))
        (reads_then S (name_at (moved_offset base (word F module_name_offset))) _ (module_name F)
        (reads_name m laid low view (word F module_name_offset) of_module) (reads_ret S _)))))

-- what the record says is what the image says
pub records
    : (m : Image) (laid : WellLaid m) (low : Low (Area m)) {M : Memory} → View m M → (size : ℕ)
    → Does (Area m) (read_module (base_of m.load_call) size true) (λ r N. Recorded m r × (r.size ≡ size) × (N ≡ M)) M
unfolding record_for
records m laid low view size =
    does_mono (Area m) (reads_module m laid low view size true) (λ r N e. (rw e.0 (recorded m size), rw e.0 refl, e.1))
