-- The definitions that the contracts of `call_cases` cite.
pub mod Buffers
pub mod Case
