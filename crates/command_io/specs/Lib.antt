pub mod Lines
pub mod Traffic
pub mod Request
pub mod Words
pub mod Reading
