pub mod Filling
pub mod Names
