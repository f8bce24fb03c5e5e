-- Command buffers.
pub mod Laws
