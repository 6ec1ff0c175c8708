pub mod Summary
pub mod Telling
