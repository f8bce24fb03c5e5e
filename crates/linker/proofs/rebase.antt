-- What the proofs of `linker::rebase` share.
pub mod Laws
pub mod Outside
pub mod Pointers
