-- The pages of definitions, each after those that it rests on.
pub mod Flip
pub mod Refusal
pub mod Checks
pub mod Signs
pub mod Sides
pub mod Inner
