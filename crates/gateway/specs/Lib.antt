pub mod Ending
pub mod Stopping
pub mod Refusing
