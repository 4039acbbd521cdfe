pub mod Bounds
pub mod Buffers
pub mod Laws
pub mod Layouts
pub mod Parts
pub mod SeenBuffers
pub mod Sizes
pub mod Writing
