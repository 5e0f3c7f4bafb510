pub mod Firsts
pub mod Room
