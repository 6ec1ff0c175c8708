pub mod All
pub mod Logs
pub mod Stops
pub mod Writing
