-- What the proofs of `register_cases` share.
pub mod Laws
