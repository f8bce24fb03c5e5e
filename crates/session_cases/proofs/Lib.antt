-- What the proofs of `session_cases` share.
pub mod Laws
