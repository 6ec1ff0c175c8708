mod Faults
mod Finds
mod Fits
mod Joins
pub mod Laws
mod Looks
mod Numerals
mod Parses
mod Rows
mod Rules
mod Taken
mod Texts
mod Turns
mod Walks
