pub mod Listings
pub mod Imports
