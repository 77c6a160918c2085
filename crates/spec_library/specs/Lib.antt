pub mod Pair
pub mod Report
