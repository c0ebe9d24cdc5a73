-- What the exported calls answer, as plain numbers.
pub mod Answers
pub mod Counts
