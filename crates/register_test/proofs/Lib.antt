-- What the proofs of `register_test` share.
mod Laws
mod Contents
