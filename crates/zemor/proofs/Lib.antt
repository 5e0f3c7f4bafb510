pub mod Table
pub mod Digits
pub mod Products
pub mod Strings
pub mod Texts
pub mod Windowing
pub mod Writing
