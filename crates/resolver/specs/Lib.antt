pub mod Laws
pub mod Resolution
pub mod Steps
pub mod NextPairs
pub mod Pairs
pub mod Outcome
pub mod Matching
pub mod Partners
