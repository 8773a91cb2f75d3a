-- What the crates above may know of the stencil's bytes and of the checks.
pub mod Stencil
pub mod Bounds
pub mod Outlines
pub mod Places
pub mod Windows
pub mod Checks
pub mod Filled
pub mod Refusal
pub mod Alike
