-- What the proofs of `linker::imports` share.
pub mod Laws
pub mod Missing
pub mod Walks
