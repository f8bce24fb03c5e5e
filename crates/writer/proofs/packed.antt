-- What the proofs of `writer::packed` share.
mod Laws
