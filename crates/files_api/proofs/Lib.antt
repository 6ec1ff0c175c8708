pub mod Driving
pub mod Weave
