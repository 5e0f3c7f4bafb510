pub mod Changes
pub mod Shown
pub mod Files
