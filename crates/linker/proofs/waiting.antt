-- What the proofs of `linker::waiting` share.
pub mod Laws
