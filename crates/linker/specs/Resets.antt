-- What the contracts of `linker::resets` cite.
pub mod Modules
pub mod Tables
