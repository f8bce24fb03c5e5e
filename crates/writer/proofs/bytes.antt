-- What the proofs of `writer::bytes` share.
mod Laws
