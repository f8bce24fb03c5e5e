-- Laws that the proofs of `linker::imports` share.
pub mod Served
pub mod Missing
pub mod Modules
