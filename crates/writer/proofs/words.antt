-- What the proofs of `writer::words` share.
mod Laws
