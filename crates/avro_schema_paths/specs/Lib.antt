pub mod Places
pub mod Parts
pub mod Adds
pub mod ByNumber
pub mod Laws
pub mod Following
pub mod Pointers
