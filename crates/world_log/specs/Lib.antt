pub mod Grouping
pub mod Ledgers
pub mod Replacing
pub mod Verdicts
