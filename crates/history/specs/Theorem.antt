-- Demand 3, by induction over a session's calls.
pub mod Invariant
pub mod Calls
pub mod Back
pub mod CallRecords
pub mod Fine
pub mod Step
pub mod Theorem
pub mod Own
pub mod Demand3
