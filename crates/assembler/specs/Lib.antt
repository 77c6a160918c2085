pub mod Listing
pub mod Assembling
pub mod Draft
pub mod Laws
