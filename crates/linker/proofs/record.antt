-- What the proofs of `linker::record` share.
pub mod Laws
