-- What follows from the definitions and from the promises of the reading library.
pub mod Decimal
pub mod Bounds
pub mod Alike
pub mod Plainly
