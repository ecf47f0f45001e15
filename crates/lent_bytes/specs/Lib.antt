pub mod Memory
pub mod Fields
pub mod Digits
pub mod Lookup
pub mod Writing
