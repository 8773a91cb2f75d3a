-- What the crates above may know of a field as bytes.
pub mod Byte
pub mod Sample
pub mod Through
pub mod Refusal
pub mod Alike
