-- How long the texts are at most.
pub mod Lengths
