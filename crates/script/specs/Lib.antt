pub mod Words
pub mod Commands
pub mod Parsing
pub mod Answers
pub mod Writer
