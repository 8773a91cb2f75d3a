-- The stages put together.
pub mod Whole
