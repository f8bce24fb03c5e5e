-- What the proofs of `session::head` share.
pub mod Laws
