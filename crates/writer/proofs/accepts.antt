-- What the proofs of `writer::accepts` share.
pub mod Laws
