pub mod Requests
pub mod Cooperating
