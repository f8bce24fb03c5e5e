-- What the proofs of `writer::apart` share.
mod Laws
