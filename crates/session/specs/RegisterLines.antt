-- The definitions that the contracts of `session::register_lines` cite.
pub mod Lines
pub mod Examples
