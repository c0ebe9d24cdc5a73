-- The meanings, in the order of document 004's Definitions 3 to 6. `Branches` and `Spans` say the occurrences as the counting
-- finds them. `Steps` has the contracts inside; what follows is in proofs/Laws.
pub mod Occurrence
pub mod Occurrences
pub mod Rows
pub mod Branches
pub mod Spans
pub mod Searches
pub mod Nonoverlap
pub mod Lists
pub mod Rising
pub mod Largest
pub mod Answers
pub mod Texts
pub mod SentenceTexts
pub mod ExcludingTexts
pub mod ConditionTexts
pub mod Joining
pub mod Steps
