pub mod Residue
pub mod Values
pub mod Fibonacci
