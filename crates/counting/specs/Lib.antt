-- How many occurrences start at each word, a number in two halves, the answers of the three calls, what is stated of the tally of two joined
-- texts, and what two calls promised before the halves. `Laws` has what follows, `Steps` the contracts inside.
pub mod Starts
pub mod Halves
pub mod Answers
pub mod Joining
pub mod Before
pub mod Steps
pub mod Laws
