-- What the program prints for its input. `Laws` has what follows, `Steps` the contracts inside.
pub mod Files
pub mod Lines
pub mod Size
pub mod Report
pub mod Steps
pub mod Laws
