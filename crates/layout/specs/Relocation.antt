-- The definitions that the contracts of `layout::relocation` cite, and their laws.
pub mod Relocation
pub mod Cases
