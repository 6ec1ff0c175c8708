pub mod Abc
pub mod Again
pub mod TwoSeats
