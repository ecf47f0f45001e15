-- how two spans stand beside each other
pub mod Standings
pub mod Fields
pub mod Entries
pub mod Values
pub mod Owners
pub mod Compared
