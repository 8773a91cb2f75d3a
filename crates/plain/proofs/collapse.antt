-- A loop that collapses.
pub mod Turns
