-- What the proofs of `register::header` share.
mod Laws
