pub mod Lines
pub mod Reading
pub mod Changes
pub mod Journal
pub mod Cause
