-- What the proofs of `layout::relocation` share.
pub mod Laws
