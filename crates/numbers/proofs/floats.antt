-- Floats as fractions and as patterns: what any law or function here may use.
pub mod Compared
pub mod Differences
pub mod Distances
pub mod Held
pub mod Middle
pub mod Multiples
pub mod Patterns
pub mod Signs
pub mod Values
