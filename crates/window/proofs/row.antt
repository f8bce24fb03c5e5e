-- What the proofs of the module `row` share, and those of what reads a row.
pub mod Laws
