-- What the proofs of `register::change` share.
pub mod Laws
