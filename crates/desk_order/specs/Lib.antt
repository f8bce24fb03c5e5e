-- That the desk serves each caller in its order, and soon.
pub mod Ops
pub mod Claims
pub mod Limits
pub mod Queues
pub mod Rotation
pub mod Refusals
pub mod Tested
pub mod Calls
pub mod ReadBack
pub mod GoodDesk
pub mod InBytes
pub mod Cases
