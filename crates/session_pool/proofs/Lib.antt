pub mod Crossing
pub mod Ends
pub mod Lists
pub mod Orders
pub mod Outcomes
pub mod Pairs
pub mod Passes
mod Obeyed
pub mod Searches
mod Balance
mod Places
mod Making
pub mod Steals
pub mod JobCrossing
