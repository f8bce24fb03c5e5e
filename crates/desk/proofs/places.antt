-- What the proofs of `desk::places` share.
mod Reading
mod Changes
mod Turns
mod Writing
