-- Neighbours by their own columns and rows, and counted from 1 as the definitions have them.
pub mod Counted
