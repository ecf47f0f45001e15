pub mod Ends
pub mod Known
pub mod Lasts
