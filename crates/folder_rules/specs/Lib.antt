pub mod Holds
pub mod Part
pub mod Rules
pub mod Whole
