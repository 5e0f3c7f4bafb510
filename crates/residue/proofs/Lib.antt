pub mod Bounds
pub mod Modulo
