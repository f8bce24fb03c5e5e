-- What the proofs of `linker::unrebase` share.
pub mod Laws
