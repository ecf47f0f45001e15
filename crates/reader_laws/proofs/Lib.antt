mod Pairs
pub mod Laws
