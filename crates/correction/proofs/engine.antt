-- What the stages of the pass leave for each other.
pub mod Staged
pub mod Orders
pub mod Whole
