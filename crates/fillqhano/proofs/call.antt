-- What the proof of `fillqhano::call` cites.
pub mod Laws
