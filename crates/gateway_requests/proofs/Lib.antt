mod Along
mod Each
mod Examples
mod Fits
mod Found
mod Free
mod Keys
mod Table
mod Walks
pub mod Bodies
pub mod RouteLaws
pub mod Subjects
pub mod Targets
pub mod Fronts
pub mod Numbers
pub mod Floats
pub mod Receiving
pub mod Sent
