-- What the proofs of `image` share.
pub mod Laws
