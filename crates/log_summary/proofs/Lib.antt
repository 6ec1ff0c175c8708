pub mod Carried
pub mod Files
pub mod Lists
pub mod Past
pub mod Seats
pub mod Streaks
pub mod Telling
