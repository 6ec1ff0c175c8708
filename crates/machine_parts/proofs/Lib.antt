pub mod Looking
pub mod Kept
pub mod Ends
pub mod Readings
