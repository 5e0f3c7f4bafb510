pub mod Appending
pub mod Drafting
pub mod Editing
pub mod Reaching
pub mod Reasoning
pub mod Staying
