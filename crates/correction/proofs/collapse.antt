-- Texels that are collapsed one after another, and row by row.
pub mod Turns
