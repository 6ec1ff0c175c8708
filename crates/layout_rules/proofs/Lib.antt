pub mod Earning
pub mod Folders
pub mod Placing
pub mod Serving
pub mod TwoSeats
