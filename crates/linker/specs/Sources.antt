-- What the contracts of `linker::sources` cite, and laws that its proofs and those above it share.
pub mod Source
pub mod Laws
pub mod Walks
