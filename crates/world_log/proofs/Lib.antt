pub mod Comparisons
pub mod Going
pub mod Grouping
pub mod Named
pub mod Places
pub mod Readings
pub mod Telling
