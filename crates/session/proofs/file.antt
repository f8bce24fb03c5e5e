-- What the proofs of `session::file` share.
pub mod Laws
