pub mod Statements
pub mod Sections
pub mod Tables
