pub mod Accounts
mod Leaving
mod Stops
mod Hands
mod Begun
mod Searches
pub mod Crossing
pub mod Seats
pub mod Keeping
pub mod Calls
