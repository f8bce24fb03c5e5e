-- The definitions that the contracts of `case_reader` cite.
pub mod Append
pub mod Pieces
