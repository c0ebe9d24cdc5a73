-- The text format: what a file's bytes mean, or why they are refused; and what a file that shows something looks like. `Laws` has what follows, first that the two agree; `Steps` the contracts inside.
pub mod Bytes
pub mod Lines
pub mod Layouts
pub mod Names
pub mod Texts
pub mod Words
pub mod Patterns
pub mod Input
pub mod Shown
pub mod Steps
pub mod Laws
