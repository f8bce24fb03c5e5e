-- What the proofs of `session` share.
pub mod Laws
pub mod Whole
