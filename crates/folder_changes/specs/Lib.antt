pub mod Course
pub mod Frame
pub mod Order
pub mod Own
