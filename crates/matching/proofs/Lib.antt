-- What follows from the definitions (`Laws`), and what the proofs of several functions share.
pub mod Laws
mod Raising
mod Settling
mod Keeping
mod Turning
mod Answering
mod Finding
mod Writing
mod Reversing
mod Listing
