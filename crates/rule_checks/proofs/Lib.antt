pub mod Deciding
pub mod Earned
pub mod Everywhere
pub mod Reading
pub mod Ties
