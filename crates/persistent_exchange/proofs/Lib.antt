pub mod Answering
pub mod Keeping
pub mod Looking
pub mod Moving
pub mod Streams
pub mod Turning
pub mod Writing
