-- The pages of definitions, each after those that it rests on.
pub mod Byte
pub mod Refusal
pub mod Checks
pub mod Bytes
pub mod Inner
