-- The answer of the pass.
pub mod Whole
