-- What the proofs of `register_test::ascending` share.
mod Laws
