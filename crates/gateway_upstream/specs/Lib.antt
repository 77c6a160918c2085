pub mod Looking
pub mod LookedUp
