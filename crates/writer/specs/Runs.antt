-- Which run of a module entry: where the entry has its pointer, and the table whose entries it has.
use Rattle.std.specs.Prelude.{ℕ}
use Rattle.history.specs.Image.{Table, indexed_imports, anonymous_imports}
use Rattle.writer_spec.specs.Runs.{indexed_run, anonymous_run}
use Rattle.writer.specs.declared.runs.Run.{Run}
use Rattle.writer.specs.declared.runs.Run.TheVariants.{Indexed, Anonymous}

abbrev pub run_at : Run → ℕ
run_at Indexed = indexed_run
run_at Anonymous = anonymous_run

abbrev pub imports_of : Run → Table
imports_of Indexed = indexed_imports
imports_of Anonymous = anonymous_imports
