-- What follows from the definitions.
pub mod Members
pub mod Words
pub mod Slots
pub mod Filling
pub mod Verdicts
pub mod Accepting
pub mod Refusing
pub mod Stated
pub mod Agree
pub mod Canonical
pub mod Limits
pub mod Adding
pub mod Examples
