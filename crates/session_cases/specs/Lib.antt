-- The definitions that the contracts of `session_cases` cite.
pub mod Cases
