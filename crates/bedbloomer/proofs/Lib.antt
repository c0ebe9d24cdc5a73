-- What the proof of a run uses.
mod Whole
