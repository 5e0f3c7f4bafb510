pub mod Cancel
pub mod Folds
pub mod Pairs
pub mod Rows
pub mod Polynomials
