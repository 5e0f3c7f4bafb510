pub mod Lents
pub mod Tree
pub mod Edits
pub mod Arena
pub mod Held
pub mod Memory
pub mod Steps
