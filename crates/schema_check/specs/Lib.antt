pub mod BadKinds
pub mod Pairs
pub mod Walk
pub mod Ways
pub mod BadPairs
pub mod Details
pub mod OneCheck
pub mod Mismatches
