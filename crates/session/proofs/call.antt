-- What the proofs of `session::call` share.
pub mod Laws
