pub mod Variables
pub mod Places
pub mod Sizes
pub mod Names
pub mod Seen
pub mod Overridden
pub mod Settings
