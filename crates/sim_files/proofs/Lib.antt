pub mod Seeing
pub mod Calling
pub mod Playing
pub mod Keeping
