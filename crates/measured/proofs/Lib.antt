pub mod Stamping
