-- A record written after the last one, step by step: what each step does to the bytes, and which module they then hold.
pub mod Sets
pub mod Draft
pub mod Laid
pub mod Held
pub mod Steps
pub mod Append
pub mod Stands
