-- Two patterns into one. `Laws` has what follows, `Steps` the contracts inside.
pub mod Slots
pub mod Merging
pub mod Sharing
pub mod Steps
pub mod Laws
