-- Laws that the proofs of the steps cite.
mod Deciding
mod Testing
