-- Laws that the proofs of several functions share.
mod ClassSets
mod ReaderSteps
mod WholeParts
mod Writing
mod Recodings
