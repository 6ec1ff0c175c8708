pub mod Refusing
pub mod Untold
pub mod Among
