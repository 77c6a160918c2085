pub mod Gates
pub mod Stopped
pub mod Leaving
