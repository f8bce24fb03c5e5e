-- All that the tests of images compute with, to be unfolded as one.
use Rattle.window.specs.Mirror as mirror
use Rattle.history.specs.Image as image
use Rattle.history.specs.LoadedModule as arrival
use Rattle.history.specs.Imports as imports
use Rattle.history_witness.specs.Tests as tests
use Rattle.history_witness.specs.Laid as laid
use Rattle.history_witness.specs.Together as together

unfoldable pub tested : Unit {0}
unfolding
    mirror.word mirror.run_m image.tables image.start image.count image.entry image.name_of image.module_name image.file_segment image.tag
    image.kind image.end_mark image.symbol_segment image.addend arrival.moved_offset arrival.loaded_place arrival.place_of arrival.old_for
    arrival.old_among arrival.segment_place arrival.old_place arrival.placed_segment arrival.address arrival.handler arrival.export_name
    arrival.export_address arrival.export_among arrival.later_export arrival.export_of arrival.indexed_of arrival.anonymous_of imports.import_entry
    imports.wanted imports.batch imports.run_start imports.run_count tests.all tests.meets tests.apart laid.stop laid.last laid.pointers
    laid.parts laid.low laid.high laid.table-tests laid.string_tests laid.first_of laid.run-tests laid.run_test laid.runs_tests laid.first_entry
    laid.marked laid.last_entry laid.begins laid.batch-tests laid.imports laid.alone-tests laid.usable laid.target laid.words laid.among
    laid.in_area laid.no_list laid.place-tests laid.laid-tests together.pairs together.lent-ranges together.ranges together.in_test
    together.once_test together.apart_test_lem together.name_test together.exports_test
tested = tt
