pub mod Writing
pub mod Parts
pub mod Commands
pub mod Telling
pub mod Turning
pub mod Holding
