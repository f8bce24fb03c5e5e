-- What the proofs of `window::name_rows` share.
pub mod Laws
