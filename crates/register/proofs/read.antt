-- What the proofs of `register::read` share.
pub mod Laws
pub mod Searches
