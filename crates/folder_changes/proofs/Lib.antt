pub mod Changing
pub mod Earning
pub mod Framing
pub mod Keeping
pub mod Locking
pub mod Ordering
pub mod Replacing
