-- What the proofs of `linker::exports` share.
pub mod Laws
