-- What the proofs of the module `outside` share.
pub mod Laws
