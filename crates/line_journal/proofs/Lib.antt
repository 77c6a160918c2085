pub mod Blocks
pub mod Writes
pub mod Crash
pub mod Steps
pub mod Gates
pub mod Bytes
pub mod LastLine
pub mod Changes
