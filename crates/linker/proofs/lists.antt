-- What the proofs of `linker::lists` share.
pub mod Laws
