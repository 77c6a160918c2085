pub mod Fault
pub mod Unnamed
pub mod Draft
pub mod Head
pub mod Index
pub mod JsonCode
pub mod Laws
