-- What rebasing and the external reset do to the bytes of a well-laid image, a file a step.
pub mod Cells
pub mod PartlyRebased
pub mod Header
pub mod Fields
pub mod Placing
pub mod Segments
pub mod Tables
pub mod Viewed
pub mod Internal
pub mod Rebased
pub mod Reset
pub mod Standing
pub mod Arrives
pub mod Unrebased
