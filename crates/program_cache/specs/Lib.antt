pub mod Compiled
pub mod Known
pub mod Pairs
pub mod Numbers
