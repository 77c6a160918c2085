pub mod Gates
pub mod Transcoding
pub mod Naming
pub mod Replies
pub mod Answering
pub mod Serving
