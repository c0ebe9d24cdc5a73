-- What is answered of a row. `Laws` has what follows, `Steps` the contracts inside.
pub mod Answers
pub mod Steps
pub mod Laws
