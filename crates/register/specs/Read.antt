-- What is read from a register that passed number 4's test, and where its records stand.
pub mod Read
pub mod Places
pub mod Encoded
pub mod Walk
pub mod Search
