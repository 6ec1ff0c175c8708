pub mod Blobs
pub mod Flags
pub mod Fronts
pub mod Names
pub mod OneDriver
pub mod Texts
