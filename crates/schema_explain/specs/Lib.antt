pub mod Pairs
pub mod Arrivals
pub mod Parts
pub mod Explanation
pub mod Bounds
pub mod Lines
pub mod Becoming
