pub mod Places
pub mod Slots
pub mod Standing
pub mod Ready
pub mod Operating
pub mod Doing
pub mod Apart
pub mod Laws
