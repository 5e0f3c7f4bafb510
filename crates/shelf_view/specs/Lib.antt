pub mod Documents
pub mod State
pub mod Questions
pub mod Places
pub mod Marked
