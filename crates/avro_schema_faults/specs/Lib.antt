pub mod DefaultPlaces
pub mod Faults
pub mod Fractions
pub mod Laws
pub mod Places
pub mod Searching
pub mod Trail
pub mod Words
