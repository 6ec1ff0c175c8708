pub mod Lines
pub mod Outcomes
pub mod Printed
pub mod SettingsLines
pub mod Statuses
