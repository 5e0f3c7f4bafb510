pub mod Hands
pub mod Keeping
pub mod Running
pub mod Telling
