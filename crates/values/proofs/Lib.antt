pub mod Scaled
pub mod Decided
pub mod Steps
pub mod Commas
pub mod Examples
pub mod Unclipped
pub mod Readback
pub mod Writeback
