-- A pattern as a file, and what writing it gives. `Laws` has what follows, `Steps` the contracts inside.
pub mod Printed
pub mod Steps
pub mod Laws
