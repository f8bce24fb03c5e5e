-- Demand 3: what a well-laid image is, what a session is, and what two sessions that end alike have in common.
pub mod Below
pub mod Image
pub mod LoadedModule
pub mod Imports
pub mod WellLaid
pub mod Sessions
pub mod Outcomes
pub mod Windows
pub mod Demand3
pub mod Steps
pub mod Rebase
pub mod Calls
pub mod Theorem
pub mod Touches
