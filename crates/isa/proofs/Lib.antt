mod Stretches
mod Turns
pub mod Judged
mod Unshared
mod Longer
mod Held
mod Proper
mod RowLaws
pub mod Worked
pub mod Operations
pub mod Crossing
