pub mod Marking
pub mod Placing
pub mod Reading
