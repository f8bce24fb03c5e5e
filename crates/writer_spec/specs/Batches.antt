-- What the imports' batches must be, computed: "Each import has its own nonzero batch, a run of at most 4,097 entries of the external table from
-- the table's first entry or one right after an end mark up to the next end mark, sharing none."
use Rattle.std.specs.Prelude.{if◌then◌else◌, ℕ, zero, suc, ◌+◌, ◌-◌, ◌/◌, ◌%◌, Bool, false, not, ◌&&◌, ◌||◌, eqb, ltb, leb}
use Rattle.window.specs.Mirror.{word}
use Rattle.linker_spec.specs.Relocation.{batch_limit}
use Rattle.history.specs.Image.{Table, externals, named_imports, indexed_imports, anonymous_imports, start, count, entry, end_mark}
use Rattle.writer_spec.specs.All.{all_below}

module _ (F : ℕ → ℕ) where
  -- among n entries from e on, all of them in the table, one has an end mark
  unfoldable pub batch_ends : (n e : ℕ) → Bool
  batch_ends zero e = false
  batch_ends (suc n) e = ltb e (count F externals) && (not (eqb (end_mark F e) 0) || batch_ends n (suc e))

  -- a batch can begin at entry e
  unfoldable pub batch_begins : ℕ → Bool
  batch_begins e = eqb e 0 || not (eqb (end_mark F (e - 1)) 0)

  -- which entry of the external table stands at offset b
  unfoldable pub batch_entry : ℕ → ℕ
  batch_entry b = (b - start F externals) / 12

  unfoldable pub is_batch : ℕ → Bool
  is_batch b =
      not (eqb b 0)
      && (leb (start F externals) b
      && (eqb ((b - start F externals) % 12) 0 && (batch_begins (batch_entry b) && batch_ends batch_limit (batch_entry b))))

  -- the batch of entry i of a table of imports
  unfoldable pub batch_of : Table → ℕ → ℕ
  batch_of t i = word F (entry F t i + 4)

  unfoldable pub batches_in : Table → Bool
  batches_in t = all_below (count F t) (λ i. is_batch (batch_of t i))

  -- the imports of the three tables, one after another
  unfoldable pub import_count : ℕ
  import_count = count F named_imports + (count F indexed_imports + count F anonymous_imports)

  unfoldable pub import_batch : ℕ → ℕ
  import_batch i =
      if ltb i (count F named_imports) then batch_of named_imports i else
      (if ltb i (count F named_imports + count F indexed_imports) then batch_of indexed_imports (i - count F named_imports) else
      batch_of anonymous_imports (i - (count F named_imports + count F indexed_imports)))

  unfoldable pub batches_apart : Bool
  batches_apart = all_below import_count (λ k. all_below k (λ i. not (eqb (import_batch i) (import_batch k))))

  unfoldable pub batches_good : Bool
  batches_good = batches_in named_imports && (batches_in indexed_imports && (batches_in anonymous_imports && batches_apart))
