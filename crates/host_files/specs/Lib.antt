pub mod Calls
pub mod Faults
pub mod Names
pub mod Paths
pub mod Slots
pub mod Seats
pub mod Streams
pub mod Waits
