-- What several crates share. `Laws` has what follows.
pub mod Choice
pub mod Collections
pub mod Sums
pub mod Written
pub mod Digits
pub mod Writing
pub mod Laws
