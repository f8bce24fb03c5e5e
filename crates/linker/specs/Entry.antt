-- What the contracts of `linker::entry` cite.
pub mod Entry
