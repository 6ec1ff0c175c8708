pub mod Scene
pub mod Tables
pub mod Played
pub mod Stages
pub mod Steps
pub mod Plays
