pub mod Sum
pub mod Tables
