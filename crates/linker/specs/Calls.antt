-- What the parts of the three calls answer, and laws that their proofs share.
pub mod Steps
pub mod Laws
pub mod Traced
pub mod Stored
pub mod Linked
pub mod Left
