pub mod Booleans
pub mod DatumOf
pub mod Dots
pub mod LargerSizes
pub mod NameParts
pub mod Placed
pub mod Plain
