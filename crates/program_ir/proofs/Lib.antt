pub mod Appended
pub mod Branched
pub mod Numbered
pub mod Tables
