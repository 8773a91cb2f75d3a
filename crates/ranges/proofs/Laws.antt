-- What the detectors may know of the constants and of the range test.
pub mod Constants
pub mod Finite
pub mod Falls
pub mod Alike
pub mod Modes
