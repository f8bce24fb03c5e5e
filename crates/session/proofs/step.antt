-- What the proofs of `session::step` share.
pub mod Laws
