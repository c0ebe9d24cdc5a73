-- The contracts of the functions inside this crate.
pub mod ValueLines
pub mod ClosedLines
