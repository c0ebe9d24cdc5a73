-- Laws that the proofs of several functions share: what one turn of a loop, or one test, tells.
mod ByteSteps
mod LineSteps
mod PassedSteps
mod SlotSteps
mod WordSteps
mod TextSteps
mod InputSteps
mod PatternSteps
