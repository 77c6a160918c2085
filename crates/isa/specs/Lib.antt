pub mod Lists
pub mod Program
pub mod Bounds
pub mod Worked
pub mod Laws
