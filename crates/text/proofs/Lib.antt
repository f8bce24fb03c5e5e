-- What the proofs of `text` share.
pub mod Laws
