pub mod Traffic
pub mod Folding
pub mod Questions
