mod Telling
mod Calls
mod Failures
mod Planned
mod Deciding
mod NewSeats
