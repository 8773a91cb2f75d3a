-- What the pass may know of the detectors.
pub mod Texel
pub mod Finite
pub mod RootCount
pub mod Discriminant
pub mod Falls
pub mod Verdict
pub mod Guard
pub mod Tests
pub mod Alike
pub mod Orders
