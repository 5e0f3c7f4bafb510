pub mod Keepings
