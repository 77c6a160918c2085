mod Tags
pub mod Crossing
