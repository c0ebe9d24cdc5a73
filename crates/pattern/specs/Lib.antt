-- What a pattern is, which patterns are refused and why. `Laws` has what follows, `Steps` the contracts inside.
pub mod Patterns
pub mod Words
pub mod Numbers
pub mod Stated
pub mod Agree
pub mod Typed
pub mod Refusals
pub mod Tests
pub mod Adding
pub mod Accepted
pub mod Steps
pub mod Laws
