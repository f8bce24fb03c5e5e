-- What the proofs of `case_reader::append` share.
pub mod Laws
