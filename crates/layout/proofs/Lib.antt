-- What the proofs of `layout` share.
pub mod Laws
pub mod Accesses
pub mod SegmentRow
