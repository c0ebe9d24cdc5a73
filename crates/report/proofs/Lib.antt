-- Laws that the proofs of several functions share.
mod Writers
mod Listing
mod Reading
