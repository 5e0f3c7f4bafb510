pub mod Runs
pub mod Fronts
pub mod Puts
pub mod Backs
