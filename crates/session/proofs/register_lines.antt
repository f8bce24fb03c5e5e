-- What the proofs of `session::register_lines` share.
pub mod Laws
