-- What the proofs of `register::begin` share.
mod Laws
