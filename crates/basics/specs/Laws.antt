-- What follows from the definitions.
pub mod Choice
pub mod Collections
pub mod Sums
pub mod Arrays
pub mod Written
pub mod Lending
pub mod Digits
pub mod Writing
