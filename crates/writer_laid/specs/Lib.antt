-- The writer's test is that of document 02: packed, names in bounds, some place, and well laid in each.
pub mod Accepted
pub mod Cases
pub mod Same
pub mod Alone
pub mod InPlace
pub mod Exact
pub mod ReadBack
pub mod ReadSame
