-- What follows from the definitions.
pub mod Conditions
pub mod Excerpts
pub mod Stated
