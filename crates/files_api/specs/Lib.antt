pub mod Streams
pub mod Drive
pub mod Notes
