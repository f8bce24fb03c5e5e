-- The definitions that the contracts of `text` cite.
pub mod Text
pub mod Laws
pub mod Puts
