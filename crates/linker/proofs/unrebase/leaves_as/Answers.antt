-- Each arm has the definition at its kind.
use Rattle.linker.proofs.unrebase.Laws.{leaves_code, leaves_rodata, leaves_data, leaves_bss}
use Rattle.linker.proofs.unrebase.leaves_as.Goals as goal

pub returns-in-Code : goal.returns-in-Code
returns-in-Code c =
    let a = c.args in
    leaves_code a.base a.s c.offset_back.ensures c.at_offset.ensures c.in-Code.is

pub returns-in-RoData : goal.returns-in-RoData
returns-in-RoData c =
    let a = c.args in
    leaves_rodata a.base a.s c.offset_back-in-RoData.ensures c.at_offset-in-RoData.ensures c.in-RoData.is

pub returns-in-Data : goal.returns-in-Data
returns-in-Data c =
    let a = c.args in
    leaves_data a.base a.s c.offset_back-in-Data.ensures c.at_offset-in-Data.ensures c.in-Data.is

pub returns-in-Bss : goal.returns-in-Bss
returns-in-Bss c =
    let a = c.args in
    leaves_bss a.base a.s c.at_offset-in-Bss.ensures c.in-Bss.is
