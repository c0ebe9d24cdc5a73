-- What follows from the definitions.
pub mod Complete
pub mod Sound
pub mod Judging
pub mod Recoded
pub mod Words
pub mod Seen
pub mod Examples
pub mod Worked
