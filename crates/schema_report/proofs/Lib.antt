pub mod SchemaLines
pub mod Appending
pub mod Refused
pub mod Answering
pub mod Placing
pub mod Quoting
