-- what is printed beside what, and what becomes of it
pub mod Outcomes
pub mod Marks
