-- The contracts of the functions inside this crate, and the reader that they are held to.
pub mod Reader
pub mod Sets
pub mod Parts
pub mod Expressions
pub mod Words
