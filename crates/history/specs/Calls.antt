-- What each call does to the modules that stand and to the register.
pub mod LinkedState
pub mod Linked
pub mod Bringing
pub mod Loads
pub mod Starts
pub mod Between
pub mod Gone
pub mod Unloads
