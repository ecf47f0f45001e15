pub mod Keys
pub mod Places
pub mod Conventions
