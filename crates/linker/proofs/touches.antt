-- What the proofs of `linker::touches` share.
pub mod Laws
