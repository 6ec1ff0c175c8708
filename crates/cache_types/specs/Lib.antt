pub mod Answers
pub mod Driver
pub mod DriverParts
pub mod Front
pub mod Names
pub mod Seats
