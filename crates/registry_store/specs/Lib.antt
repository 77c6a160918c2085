pub mod Stored
pub mod Line
pub mod Reading
pub mod Store
pub mod Cause
pub mod Schemas
pub mod Laws
