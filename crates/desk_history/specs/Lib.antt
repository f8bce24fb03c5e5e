-- Demand 3 through the desk.
pub mod Sessions
pub mod Replies
pub mod Turns
pub mod Calls
pub mod Trace
pub mod Holding
pub mod Demand3
