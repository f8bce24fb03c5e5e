-- What the proofs of `header` share.
pub mod Words
