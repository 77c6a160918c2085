pub mod Listing
pub mod Cause
pub mod Import
