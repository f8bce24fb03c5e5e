-- What the proofs of `linker::sources` share.
pub mod Laws
