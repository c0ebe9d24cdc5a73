-- The contracts of the functions inside this crate.
pub mod Bounds
pub mod Settling
pub mod Turning
pub mod Sides
pub mod Listing
