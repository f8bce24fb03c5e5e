-- The definitions that the contracts of `layout` cite, and their laws.
pub mod Header
pub mod Format
pub mod Tables
pub mod Segments
pub mod SegmentRow
pub mod Cases
pub mod Relocation
