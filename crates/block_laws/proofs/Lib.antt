pub mod Kept
pub mod Sound
pub mod Listed
pub mod Covering
