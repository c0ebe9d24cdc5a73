-- The contracts of the functions inside this crate.
pub mod Words
pub mod Inputs
