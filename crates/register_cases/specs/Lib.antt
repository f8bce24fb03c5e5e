-- The definitions that the contracts of `register_cases` cite.
pub mod Cases
