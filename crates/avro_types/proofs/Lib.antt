mod AliasPlaces
mod Copies
mod SymbolPositions
pub mod Crossing
