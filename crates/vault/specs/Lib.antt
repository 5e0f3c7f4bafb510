pub mod Boundary
