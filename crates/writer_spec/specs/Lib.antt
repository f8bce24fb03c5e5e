-- Document 02, Ask 1: descriptions, the images that they make, which of them the writer takes, and what its two calls leave.
pub mod All
pub mod Description
pub mod FirstBytes
pub mod Runs
pub mod Batches
pub mod Words
pub mod Accepts
pub mod Outcome
