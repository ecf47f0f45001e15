pub mod Earlier
pub mod Piles
