pub mod Types
pub mod Reading
pub mod Listing
pub mod Checking
pub mod Faults
pub mod Reports
