-- What the proofs of `linker::fix` share.
pub mod Laws
