-- What the proofs of `register` share.
pub mod Laws
pub mod ExportLoops
pub mod HeaderLaws
