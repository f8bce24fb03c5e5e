-- What the service desk does: its callers' queues, the same in bytes, the commands, and what the two calls leave.
pub mod Desk
pub mod Places
pub mod Bytes
pub mod Command
pub mod Outcome
pub mod Cases
