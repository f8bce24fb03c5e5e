-- What the proofs of `linker::relocation` share.
pub mod Laws
pub mod Walk
