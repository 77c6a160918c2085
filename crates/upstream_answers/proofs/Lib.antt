pub mod Texts
pub mod Bodies
pub mod Heads
pub mod Answered
pub mod Received
