-- The register: its abstract value, its encoding, and when bytes are one.
pub mod Words
pub mod Lists
pub mod Module
pub mod Proper
pub mod Order
pub mod Encode
pub mod Decode
pub mod Check
pub mod CheckSound
pub mod CheckComplete
pub mod Slots
pub mod CheckIs
pub mod Buffers
pub mod Change
pub mod Append
pub mod Read
pub mod OneOrder
