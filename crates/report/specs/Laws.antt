-- What follows from the definitions.
pub mod Files
pub mod Size
pub mod Nine
