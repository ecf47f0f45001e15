mod Counts
mod ByKey
mod Values
mod Elements
mod Places
mod Agrees
