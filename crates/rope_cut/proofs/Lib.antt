pub mod Cutting
pub mod Roots
pub mod Splicing
