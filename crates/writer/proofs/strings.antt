-- What the proofs of `writer::strings` share.
mod Laws
