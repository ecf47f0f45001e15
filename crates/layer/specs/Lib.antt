pub mod Later
pub mod Layers
