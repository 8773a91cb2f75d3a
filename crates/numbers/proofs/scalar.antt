-- Minimum, maximum and median by comparisons and signs.
pub mod Zeros
