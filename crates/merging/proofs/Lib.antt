-- Laws that the proofs of several functions share.
mod Gathering
mod Inputs
mod Union
