-- The record of a module, read from its image and written after the last one.
pub mod Writing
pub mod Waiting
pub mod Puts
pub mod Sorted
pub mod Gathered
pub mod Naming
pub mod Modules
pub mod Proper
pub mod Exported
