pub mod NameLists
pub mod Had
pub mod Entries
pub mod Tries
pub mod Given
pub mod Listed
pub mod Operations
pub mod Saying
