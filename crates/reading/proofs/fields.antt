-- What a breach says, how far the walk through the fields has come, and the products of the input's numbers.
pub mod Breaches
pub mod Sizes
pub mod Outlines
pub mod Layouts
pub mod Stages
