pub mod Frames
pub mod Clips
pub mod Writers
pub mod Chunks
pub mod Index
pub mod Signs
pub mod Endian
