-- What the proofs of `call_cases::buffers` share.
pub mod Laws
