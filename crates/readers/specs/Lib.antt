pub mod Reading
pub mod Texts
pub mod Places
pub mod Tables
pub mod DatadogKeys
