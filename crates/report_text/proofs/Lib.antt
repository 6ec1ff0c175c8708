pub mod Endings
pub mod Joined
