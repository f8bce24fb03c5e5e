-- What the proofs of `linker::calls` share.
pub mod Calls
