-- What the proofs of `writer::batches` share.
mod Laws
