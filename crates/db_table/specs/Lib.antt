pub mod Databases
pub mod Heads
pub mod Holds
pub mod Rows
pub mod Sound
pub mod Tables
pub mod Truth
pub mod Usable
