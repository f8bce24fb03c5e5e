-- What the proofs of `window::name` share.
pub mod Laws
