-- Narrowing and floor by the bits.
pub mod Flooring
pub mod Narrowing
