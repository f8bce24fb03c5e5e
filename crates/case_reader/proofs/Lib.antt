-- What the proofs of `case_reader` share.
pub mod Laws
