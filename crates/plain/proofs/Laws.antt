-- What follows from the plain engine's promise, and from the two engines' promises together.
pub mod Answer
pub mod Alike
pub mod Engines
