-- What the proofs of `register::exports` share.
mod Laws
