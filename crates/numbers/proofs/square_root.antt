-- The root by whole numbers, and the guess at it by floats.
pub mod Rooting
pub mod Roots
pub mod Guessing
