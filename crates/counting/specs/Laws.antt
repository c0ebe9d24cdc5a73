-- What follows from the definitions.
pub mod Inputs
pub mod Bound
pub mod Halves
pub mod Runs
pub mod Stated
pub mod Nine
pub mod Starts
pub mod Before
pub mod Joining
