pub mod Places
pub mod Answered
pub mod Wrapped
pub mod Started
pub mod Unformed
