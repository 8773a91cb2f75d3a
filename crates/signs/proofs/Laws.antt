-- What the crates above may know of the correction of signs.
pub mod Median
pub mod Flip
pub mod Turned
pub mod Twice
pub mod Sides
pub mod Again
pub mod Beyond
pub mod Figures
pub mod Refusal
pub mod Alike
