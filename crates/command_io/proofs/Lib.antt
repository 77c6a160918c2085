pub mod Digits
pub mod Split
pub mod Traffic
mod Parts
mod Numerals
