-- What only `linker`'s own contracts and proofs cite, a folder a module of the code. The steps themselves are defined in `linker_spec`.
pub mod Relocation
pub mod Sources
pub mod Imports
pub mod Resets
pub mod Record
pub mod Exports
pub mod Entries
pub mod Entry
pub mod Calls
