pub mod Members
pub mod Passing
