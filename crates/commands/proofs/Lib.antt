pub mod Answers
pub mod OneOutput
pub mod PiecesLeft
pub mod SchemaLines
pub mod Stopping
pub mod UpToEnd
pub mod Folding
