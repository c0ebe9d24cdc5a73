-- What follows from the definitions: above all that a file is read as contents exactly if it shows them.
pub mod Numbers
pub mod Lines
pub mod TextShown
pub mod Fields
pub mod Words
pub mod Orders
pub mod PatternPrinted
pub mod PatternShown
pub mod Limits
pub mod Refusing
pub mod Reading
pub mod Rearranged
pub mod Input
pub mod Examples
