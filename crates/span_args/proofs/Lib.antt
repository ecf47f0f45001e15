pub mod Noting
pub mod Rows
