-- What the proofs of `writer::runs` share.
mod Laws
