pub mod Runs
pub mod Finds
pub mod Numbers
pub mod Holding
pub mod Disks
pub mod Starts
pub mod Listings
pub mod OneListing
