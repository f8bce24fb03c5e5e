-- What the proofs of `fillqhano::serve` share.
pub mod Laws
