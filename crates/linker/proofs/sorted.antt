-- What the proofs of `linker::sorted` share.
pub mod Laws
