-- The byte that holds the order of a texel, and the rows of cells that have it.
pub mod Above
