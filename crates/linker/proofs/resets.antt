-- What the proofs of `linker::resets` share.
pub mod Laws
pub mod Walks
