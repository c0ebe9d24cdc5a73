-- The contracts of the functions inside this crate.
pub mod Inputs
pub mod Numbers
pub mod Fits
pub mod Sentences
pub mod Plans
pub mod Rows
pub mod Tables
pub mod Walks
pub mod Listings
