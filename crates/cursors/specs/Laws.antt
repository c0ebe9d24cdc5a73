-- What follows of the machine.
pub mod Admitting
pub mod Alone
pub mod Giving
pub mod Isolation
pub mod Numbering
pub mod Running
pub mod Stated
pub mod Storing
pub mod Strangers
pub mod Unrepeated
