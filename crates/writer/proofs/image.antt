-- What the proofs of `writer::image` share.
mod Laws
mod Whole
mod Outcomes
