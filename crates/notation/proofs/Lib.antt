mod Names
mod Numerals
mod Remaining
