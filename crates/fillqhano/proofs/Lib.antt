-- What the proofs of `fillqhano` share.
pub mod Laws
pub mod Turns
