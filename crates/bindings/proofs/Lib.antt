-- Laws that the proofs share.
mod Numbers
mod Counting
mod Nine
