-- What the proofs of `window` share.
pub mod Laws
pub mod TraceLaws
