pub mod BlockDecoding
pub mod BooleanDecoding
pub mod Decoding
pub mod LengthDecoding
pub mod NumberDecoding
pub mod Opening
pub mod PositionDecoding
pub mod Walk
