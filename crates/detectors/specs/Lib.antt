-- The pages of definitions, each after those that it rests on.
pub mod Texel
pub mod Verdict
pub mod Pairs
pub mod Linear
pub mod Diagonal
pub mod RootCount
pub mod Discriminant
pub mod Edge
pub mod Orders
pub mod Inner
