-- What depends on the image alone: where its parts lie, and that runs, batches and touched bytes are what their tests say.
pub mod Layout
pub mod Pairs
pub mod Strings
pub mod Agree
pub mod RunsLaid
pub mod BatchesLaid
pub mod LaidAlone
pub mod TouchedLaid
pub mod Touched
