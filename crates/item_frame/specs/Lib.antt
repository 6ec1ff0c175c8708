pub mod AnyItem
pub mod Item
pub mod Reading
pub mod Refusals
pub mod RoundTrip
pub mod Writing
