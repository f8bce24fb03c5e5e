-- All that a call of the three computes with, to be unfolded as one.
use Rattle.window.specs.Memory as windowMemory
use Rattle.window.specs.Access as windowAccess
use Rattle.window.specs.Loop as windowLoop
use Rattle.window.specs.Name as windowName
use Rattle.window.specs.Bytes as windowBytes
use Rattle.layout.specs.Tables as layoutTables
use Rattle.layout.specs.Segments as layoutSegments
use Rattle.layout.specs.Format as layoutFormat
use Rattle.layout.specs.Relocation.Relocation as layoutRelocation
use Rattle.register.specs.Words as registerWords
use Rattle.register.specs.Module as registerModule
use Rattle.register.specs.Encode as registerEncode
use Rattle.register.specs.Change as registerChange
use Rattle.register.specs.Decode as registerDecode
use Rattle.register.specs.Buffers as registerBuffers
use Rattle.register.specs.Append.Draft as registerappendDraft
use Rattle.register.specs.Read.Read as registerreadRead
use Rattle.linker_spec.specs.Rebase as linkerRebase
use Rattle.linker_spec.specs.Relocation as linkerRelocation
use Rattle.linker_spec.specs.Exports as linkerExports
use Rattle.linker_spec.specs.Imports as linkerImports
use Rattle.linker_spec.specs.Resets as linkerResets
use Rattle.linker_spec.specs.Lists as linkerLists
use Rattle.linker_spec.specs.Fix as linkerFix
use Rattle.linker_spec.specs.Unrebase as linkerUnrebase
use Rattle.linker_spec.specs.Calls as linkerCalls
use Rattle.linker_spec.specs.Outcome as linkerOutcome
use Rattle.history.specs.Sessions as sessions

unfoldable pub opened : Unit {0}
unfolding
    windowMemory.good_window windowMemory.place windowMemory.inside windowMemory.byte_at windowMemory.word_at windowMemory.put_byte
    windowMemory.put_bytes windowMemory.put_word windowMemory.put_upward windowMemory.put_privileged windowAccess.◌>>=◌ windowAccess.run
    windowAccess.Reads windowLoop.loop windowName.name_from windowName.name_at windowName.no_zero windowName.is_name windowName.laid_over
    windowName.order_of windowBytes.byte_of windowBytes.reaches layoutTables.table_entry_sizes layoutTables.pointer_tables layoutSegments.field
    layoutSegments.set_field layoutSegments.segment_entry layoutSegments.set_segment_entry layoutSegments.segment layoutSegments.set_segment
    layoutSegments.address_in layoutSegments.tag_to_address layoutFormat.segment_type layoutFormat.relocation_type layoutRelocation.patch
    layoutRelocation.apply_relocation registerWords.part registerWords.same registerWords.all_zero registerWords.holds registerWords.bytes_of
    registerWords.flat registerWords.words_in registerModule.named_ok registerModule.find_from registerModule.find_export
    registerModule.ascending registerModule.proper_module registerModule.proper_modules registerModule.proper_names registerModule.proper
    registerEncode.export_words registerEncode.export_names registerEncode.module_names registerEncode.flag registerEncode.module_words
    registerEncode.record_words registerEncode.record_names registerEncode.crs_known registerEncode.crs_base registerEncode.encode_words
    registerEncode.slot registerEncode.slots registerChange.new_module registerChange.with_segment registerChange.with_indexed
    registerChange.by_order registerChange.put_named registerChange.with_named registerChange.appended registerChange.without registerChange.removed
    registerChange.with_crs registerChange.with_missing registerDecode.export_at registerDecode.exports_from registerDecode.exports_in
    registerDecode.module_size registerDecode.read_module registerDecode.read_modules registerDecode.read_crs registerDecode.slot_length
    registerDecode.slot_name registerDecode.read_slots registerDecode.settled registerDecode.body registerDecode.read_register
    registerDecode.encodes registerDecode.register_of registerDecode.is_register registerDecode.decode registerBuffers.padded
    registerBuffers.encode_records registerBuffers.encode_names registerBuffers.encode_missing registerappendDraft.room_in
    registerreadRead.modules_of registerreadRead.module_bytes registerreadRead.place_from registerreadRead.place_after registerreadRead.has_base
    registerreadRead.has_name registerreadRead.address_of registerreadRead.export_of registerreadRead.entry_of registerreadRead.or_else
    registerreadRead.lookup_in registerreadRead.record_at registerreadRead.module_at linkerRebase.is_magic linkerRebase.move_word
    linkerRebase.move_header linkerRebase.lent_place linkerRebase.moved_place linkerRebase.place linkerRebase.write_back linkerRebase.move_found
    linkerRebase.move_segment linkerRebase.move_segments linkerRebase.look_at_segments linkerRebase.move_pointers linkerRebase.move_table
    linkerRebase.move_tables linkerRelocation.write_place linkerRelocation.relocate_from linkerRelocation.relocate_into
    linkerRelocation.apply_internal_relocation linkerRelocation.apply_internal_relocations linkerRelocation.unresolved_symbol
    linkerRelocation.relocate_at linkerRelocation.reset_entry linkerRelocation.reset_external_relocations linkerRelocation.walk
    linkerRelocation.apply_relocation_batch linkerRelocation.batch_is_resolved linkerExports.put_usable linkerExports.named_export
    linkerExports.named_exports linkerExports.indexed_export linkerExports.indexed_exports linkerExports.read_segments linkerExports.read_module
    linkerImports.anonymous_of linkerImports.is_unresolved linkerImports.resolve linkerImports.add_missing linkerImports.import_named
    linkerImports.apply_import_named_symbols linkerImports.import_from linkerImports.link_from linkerImports.imports_of linkerImports.module_by_name
    linkerImports.import_module linkerImports.apply_module_imports linkerImports.serve_named linkerImports.serve_module linkerImports.serve
    linkerImports.apply_exports_to_loaded linkerResets.reset linkerResets.reset_at linkerResets.reset_named linkerResets.reset_module
    linkerResets.reset_imports linkerResets.reset_importers linkerLists.register linkerLists.head_leaves linkerLists.middle_leaves
    linkerLists.new_tail linkerLists.tail_leaves linkerLists.other_leaves linkerLists.leaves linkerLists.unregister linkerFix.align_up
    linkerFix.fixed_to linkerFix.fix_pair linkerFix.fix_from linkerFix.fix linkerUnrebase.offset_back linkerUnrebase.leaves_as
    linkerUnrebase.unmove_found linkerUnrebase.unmove_segments linkerUnrebase.unrebase linkerCalls.number linkerCalls.value linkerCalls.relocate
    linkerCalls.rebase_with linkerCalls.rebase linkerCalls.rebase_static linkerCalls.fits linkerCalls.add_record linkerCalls.initialized
    linkerCalls.initialize linkerCalls.listed linkerCalls.missing_now linkerCalls.linked linkerCalls.load linkerCalls.first_with_base
    linkerCalls.unlisted linkerCalls.leave linkerCalls.unload linkerOutcome.register_after linkerOutcome.outcome_of linkerOutcome.call_outcome
    linkerOutcome.initialize_outcome linkerOutcome.load_outcome linkerOutcome.unload_outcome linkerLists.becomes_head linkerLists.becomes_tail
    linkerFix.end_tables linkerUnrebase.unmove_segment
    sessions.given sessions.Fresh
opened = tt
