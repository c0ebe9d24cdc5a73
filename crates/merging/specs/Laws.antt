-- What follows from the definitions.
pub mod Slots
pub mod Words
pub mod Taking
pub mod Passing
pub mod Accepting
pub mod Occurring
pub mod Sharing
pub mod Judging
pub mod Itself
pub mod Swapped
pub mod Merged
pub mod Stated
pub mod Examples
