-- What the proofs of `writer` share.
pub mod Laws
