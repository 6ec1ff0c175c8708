pub mod RoNames
pub mod Paths
