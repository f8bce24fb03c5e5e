-- The definitions that the contracts of `fillqhano` cite beside those of `linker_spec`.
pub mod Refusal
