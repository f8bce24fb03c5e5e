-- What the proofs of `session::lines` share.
pub mod Laws
