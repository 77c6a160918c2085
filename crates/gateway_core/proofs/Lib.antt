pub mod Asked
pub mod Faults
pub mod Answered
pub mod Writes
pub mod Found
pub mod Replied
