pub mod Shelves
pub mod Rules
pub mod Calls
pub mod Whys
pub mod Spans
pub mod Steps
pub mod Reaches
