-- What the proofs of `linker::entry` share.
pub mod Laws
