-- The pages of definitions, each after those that it rests on.
pub mod Stencil
pub mod Bounds
pub mod Window
pub mod Refusal
pub mod Checks
pub mod Inner
