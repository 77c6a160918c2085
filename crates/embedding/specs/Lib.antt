pub mod Batch
pub mod Numbers
pub mod Opening
pub mod Report
pub mod Status
pub mod Words
