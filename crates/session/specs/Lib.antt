-- The definitions that the contracts of `session` cite, and their laws.
pub mod Run
pub mod Start
pub mod Session
pub mod Ahead
pub mod Fits
pub mod RegisterLines
-- The definitions that the contracts of `session::head` cite.
pub mod Head
-- The definitions that the contracts of `session::step` cite.
pub mod Steps
-- The definitions that the contracts of `session::file` cite.
pub mod File
pub mod Parts
pub mod Cases
-- The definitions that the contracts of `session::lines` cite.
pub mod Lines
pub mod Examples
-- What the contract of `make_call` cites.
pub mod Continues
