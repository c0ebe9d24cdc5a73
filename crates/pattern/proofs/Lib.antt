-- Laws that the proofs of several functions share.
mod Arrays
mod Numbers
mod Ordering
