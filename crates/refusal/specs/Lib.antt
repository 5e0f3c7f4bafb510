pub mod Refusals
pub mod Writing
