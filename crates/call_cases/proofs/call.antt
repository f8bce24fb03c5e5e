-- What the proofs of `call_cases::call` share.
pub mod Laws
