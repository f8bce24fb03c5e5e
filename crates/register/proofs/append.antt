-- What the proofs of `register::append` share.
pub mod Laws
