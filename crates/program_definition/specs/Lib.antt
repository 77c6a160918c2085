pub mod SkipStands
pub mod Stands
pub mod Linking
pub mod Limits
pub mod Worked
pub mod Laws
