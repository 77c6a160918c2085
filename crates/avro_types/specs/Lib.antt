pub mod Aliases
pub mod Datum
pub mod DatumCode
pub mod Laws
pub mod Node
pub mod Symbols
pub mod Valid
