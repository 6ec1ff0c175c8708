pub mod Names
pub mod Counting
pub mod Blobs
pub mod Learning
pub mod Listing
pub mod Going
pub mod Seating
pub mod Says
