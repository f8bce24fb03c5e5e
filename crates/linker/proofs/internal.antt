-- What the proofs of `linker::internal` share.
pub mod Laws
