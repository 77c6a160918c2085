mod Alone
mod Ending
mod PairErrors
mod PairRuns
mod Carry
pub mod Crossing
pub mod Appending
pub mod Tables
pub mod Counts
pub mod Ends
pub mod Stepping
pub mod Slicing
pub mod Longer
mod Bulk
pub mod Start
pub mod Foresight
pub mod WholePayload
pub mod MachineCrossing
