pub mod Closing
pub mod Persistent
pub mod Preparing
pub mod Scouting
pub mod Standing
