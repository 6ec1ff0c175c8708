pub mod Asked
pub mod Known
pub mod Numbers
pub mod Options
pub mod Parsed
pub mod Reading
pub mod Table
