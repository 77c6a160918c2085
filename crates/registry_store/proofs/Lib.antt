pub mod Checks
pub mod Fields
pub mod Texts
pub mod Bodies
pub mod Lengths
pub mod Stores
pub mod Causes
pub mod Restarts
