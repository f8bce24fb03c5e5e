-- What the proofs of `register_test::records` share.
mod Laws
mod Loops
