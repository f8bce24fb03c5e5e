-- What the contracts of `linker::relocation` cite.
pub mod Entry
