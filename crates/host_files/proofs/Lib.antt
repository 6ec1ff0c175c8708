pub mod Entries
pub mod Firsts
pub mod Sleeps
pub mod Untold
