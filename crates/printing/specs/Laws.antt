-- What follows from the definitions: above all that accepted patterns are printed as the same bytes exactly if they agree, and are read again.
pub mod Printing
pub mod Printed
pub mod Size
pub mod Reading
pub mod Examples
